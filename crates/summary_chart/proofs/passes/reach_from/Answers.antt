-- One turn by the lemmas on turns (`ReachedPlaces`), and what is kept by those on one index more (`KeptWays`).
use Rattle.std.proofs.Common.{ℕ, ◌*◌, List, length, refl, sym, ap, subst, arith}
use Rattle.std.specs.List.{All}
use Rattle.search_frames.specs.declared.way.Way.{Way}
use Rattle.search_frames.specs.Configurations.{rules_in}
use Rattle.search_frames.specs.Frames.{numbered_of}
use Rattle.search_frames.specs.WaysFrom.{IsWayFrom}
use Rattle.summary_chart.specs.declared.place_ways.Stop.{Stop}
use Rattle.summary_chart.specs.declared.state_set.StateSet.{StateSet}
use Rattle.summary_chart.specs.Spreading.{Spreads, EveryKey}
use Rattle.summary_chart.specs.Tables.{set_of}
use Rattle.summary_chart.specs.PlaceWays.{HasEachKey, LeadsOnOrEnds, ways_of}
use Rattle.summary_chart.proofs.ReachedPlaces.{spread_on, old_before}
use Rattle.summary_chart.proofs.KeptWays.{each_added, keys_added, left, put_in, with_stop, without_stop}
use Rattle.summary_chart.proofs.SpreadMemos.{all_grown}
use Rattle.summary_chart.proofs.SpreadWalks.{room_grown}
use Rattle.summary_chart.proofs.StopIndices.{one_more_stop}
use Rattle.summary_chart.proofs.TableItems.{read_set}
use Rattle.summary_chart.proofs.passes.reach_from.Goals as goal

pub returns-in_default-clause-before : goal.returns-in_default-clause-before
returns-in_default-clause-before g c =
    let searched = c.args.site.lexicon.now in
    let line = c.args.site.line.now in
    let choices = c.args.site.choices.now in
    let place = c.args.site.place.now in
    let index = c.args.index in
    let table = c.args.table.now in
    let new = c.spread.new.table in
    let read = read_set table index c.index-states.result.now c.requires.there c.index-states.ensures in
    spread_on searched line choices index place.at place.entrance table c.requires.site.searched c.requires.before c.requires.indexed new
    c.in_ok-spread.ensures.table
    (subst (λ (set : StateSet). Spreads searched line choices place.at place.entrance set EveryKey table new) (sym read) c.in_ok-spread.ensures.spreads)

pub returns-in_default-clause-kept : goal.returns-in_default-clause-kept
returns-in_default-clause-kept g c =
    let searched = c.args.site.lexicon.now in
    let line = c.args.site.line.now in
    let choices = c.args.site.choices.now in
    let place = c.args.site.place.now in
    let index = c.args.index in
    let table = c.args.table.now in
    let most = c.in_ok-stop.ensures.kept.0 in
    let old = c.args.kept.now in
    let kept = c.keep_ways.new.kept in
    let new = c.spread.new.table in
    let read = read_set table index c.index-states.result.now c.requires.there c.index-states.ensures in
    let same = left searched line choices index most place.at place.entrance place.state table c.requires.before.lawful c.requires.indexed
    old kept
    (set_of table index) c.in_ok-stop.field-0 c.in_default.not-Some c.in_ok-stop.ensures.kept.2 in
    without_stop searched line choices index most place.at place.entrance place.state table c.requires.before.lawful c.requires.indexed
    old kept new
    (old_before searched line choices index place.at place.entrance table c.requires.site.searched c.requires.before c.requires.indexed new
    c.in_ok-spread.ensures.table
    (subst (λ (set : StateSet). Spreads searched line choices place.at place.entrance set EveryKey table new) (sym read) c.in_ok-spread.ensures.spreads))
    c.requires.kept same

pub spread_ways-requires-clause-ways : goal.spread_ways-requires-clause-ways
spread_ways-requires-clause-ways g c =
    let searched = c.args.site.lexicon.now in
    let line = c.args.site.line.now in
    let choices = c.args.site.choices.now in
    let place = c.args.site.place.now in
    let index = c.args.index in
    let table = c.args.table.now in
    let most = c.in_ok-stop.ensures.kept.0 in
    let old = c.args.kept.now in
    let kept = c.keep_ways.new.kept in
    let read = read_set table index c.index-states.result.now c.requires.there c.index-states.ensures in
    let adds = put_in searched line choices index most place.at place.entrance place.state table c.requires.before.lawful c.requires.indexed
    old kept
    (set_of table index) c.in_ok-stop.field-0 c.in-Some.stop refl c.in-Some.is c.in_ok-stop.ensures.kept.2 in
    subst (All (IsWayFrom searched line choices (numbered_of searched place))) (sym c.of.ensures)
    (each_added searched line choices index most place.at place.entrance place.state table c.requires.before.lawful c.requires.indexed
    old kept c.in-Some.stop adds)

pub spread_ways-requires-clause-all : goal.spread_ways-requires-clause-all
spread_ways-requires-clause-all g c =
    let searched = c.args.site.lexicon.now in
    let line = c.args.site.line.now in
    let choices = c.args.site.choices.now in
    let place = c.args.site.place.now in
    let index = c.args.index in
    let table = c.args.table.now in
    let most = c.in_ok-stop.ensures.kept.0 in
    let old = c.args.kept.now in
    let kept = c.keep_ways.new.kept in
    let read = read_set table index c.index-states.result.now c.requires.there c.index-states.ensures in
    let adds = put_in searched line choices index most place.at place.entrance place.state table c.requires.before.lawful c.requires.indexed
    old kept
    (set_of table index) c.in_ok-stop.field-0 c.in-Some.stop refl c.in-Some.is c.in_ok-stop.ensures.kept.2 in
    subst (λ (ways : List Way). HasEachKey searched (LeadsOnOrEnds searched line choices) place.at place.entrance c.index-states.result.now ways) (sym c.of.ensures)
    (subst (λ (set : StateSet). HasEachKey searched (LeadsOnOrEnds searched line choices) place.at place.entrance set (ways_of kept.ways.items c.in-Some.stop)) read
    (keys_added searched line choices index most place.at place.entrance place.state table c.requires.before.lawful c.requires.indexed
    old kept c.in-Some.stop adds))

pub returns-clause-before : goal.returns-clause-before
returns-clause-before g c =
    let searched = c.args.site.lexicon.now in
    let line = c.args.site.line.now in
    let choices = c.args.site.choices.now in
    let place = c.args.site.place.now in
    let index = c.args.index in
    let table = c.args.table.now in
    let new = c.spread_ways.new.table in
    let read = read_set table index c.index-states.result.now c.requires.there c.index-states.ensures in
    spread_on searched line choices index place.at place.entrance table c.requires.site.searched c.requires.before c.requires.indexed new c.spread_ways.ensures.table
    (subst (λ (set : StateSet). Spreads searched line choices place.at place.entrance set EveryKey table new) (sym read) c.spread_ways.ensures.spreads)

pub returns-clause-kept : goal.returns-clause-kept
returns-clause-kept g c =
    let searched = c.args.site.lexicon.now in
    let line = c.args.site.line.now in
    let choices = c.args.site.choices.now in
    let place = c.args.site.place.now in
    let index = c.args.index in
    let table = c.args.table.now in
    let most = c.in_ok-stop.ensures.kept.0 in
    let old = c.args.kept.now in
    let kept = c.keep_ways.new.kept in
    let new = c.spread_ways.new.table in
    let read = read_set table index c.index-states.result.now c.requires.there c.index-states.ensures in
    let adds = put_in searched line choices index most place.at place.entrance place.state table c.requires.before.lawful c.requires.indexed
    old kept
    (set_of table index) c.in_ok-stop.field-0 c.in-Some.stop refl c.in-Some.is c.in_ok-stop.ensures.kept.2 in
    with_stop searched line choices index most place.at place.entrance place.state table c.requires.before.lawful c.requires.indexed
    old kept new
    (old_before searched line choices index place.at place.entrance table c.requires.site.searched c.requires.before c.requires.indexed new c.spread_ways.ensures.table
    (subst (λ (set : StateSet). Spreads searched line choices place.at place.entrance set EveryKey table new) (sym read) c.spread_ways.ensures.spreads))
    c.requires.kept c.in-Some.stop adds

pub returns-clause-stops : goal.returns-clause-stops
returns-clause-stops g c told so_far =
    let searched = c.args.site.lexicon.now in
    let line = c.args.site.line.now in
    let choices = c.args.site.choices.now in
    let place = c.args.site.place.now in
    let index = c.args.index in
    let table = c.args.table.now in
    let most = c.in_ok-stop.ensures.kept.0 in
    let old = c.args.kept.now in
    let kept = c.keep_ways.new.kept in
    let new = c.spread_ways.new.table in
    let read = read_set table index c.index-states.result.now c.requires.there c.index-states.ensures in
    let adds = put_in searched line choices index most place.at place.entrance place.state table c.requires.before.lawful c.requires.indexed
    old kept
    (set_of table index) c.in_ok-stop.field-0 c.in-Some.stop refl c.in-Some.is c.in_ok-stop.ensures.kept.2 in
    one_more_stop searched line index table new old.stops.items kept.stops.items c.in-Some.stop adds.added (ap (λ (s : Stop). s.index) adds.is)
    (old_before searched line choices index place.at place.entrance table c.requires.site.searched c.requires.before c.requires.indexed new c.spread_ways.ensures.table
    (subst (λ (set : StateSet). Spreads searched line choices place.at place.entrance set EveryKey table new) (sym read) c.spread_ways.ensures.spreads))
    so_far

pub returns-clause-room : goal.returns-clause-room
returns-clause-room g c =
    let searched = c.args.site.lexicon.now in
    let line = c.args.site.line.now in
    let keeps = c.spread_ways.ensures.spreads.keeps in
    room_grown searched line c.args.table.now c.spread_ways.new.table c.args.room.now.walking c.args.room.now.walking keeps refl
    (all_grown searched line c.args.table.now c.spread_ways.new.table c.args.room.now.walking.memo keeps c.requires.room.memo) c.requires.room

pub returns-clause-few : goal.returns-clause-few
returns-clause-few g c =
    let searched = c.args.site.lexicon.now in
    let line = c.args.site.line.now in
    let choices = c.args.site.choices.now in
    let place = c.args.site.place.now in
    let index = c.args.index in
    let table = c.args.table.now in
    let most = c.in_ok-stop.ensures.kept.0 in
    let adds = put_in searched line choices index most place.at place.entrance place.state table c.requires.before.lawful c.requires.indexed
    c.args.kept.now c.keep_ways.new.kept
    (set_of table index) c.in_ok-stop.field-0 c.in-Some.stop refl c.in-Some.is c.in_ok-stop.ensures.kept.2 in
    let bound = c.in_ok-stop.ensures.kept.1 in
    let room = adds.room in
    let count = ap (λ (n : ℕ). n * length (rules_in searched).names) c.requires.before.lawful.count in
    omega (arith, bound, room, count)
