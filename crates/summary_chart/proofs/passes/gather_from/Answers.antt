-- What is kept at the index are the ways from each place there, of which a part has all that are living, and to go over them takes no more
-- steps than to go over all (`NarrowedStops`).
use Rattle.std.proofs.Common.{◌≡◌, ◌++◌, List, length, slice_set, sym, ap, subst, ◌∙◌, arith}
use Rattle.std.specs.List.{All}
use Rattle.std.proofs.lemmas.List.{get_or_read, length-set}
use Rattle.search_frames.specs.declared.way.Way.{Way}
use Rattle.search_frames.specs.Frames.{numbered_of}
use Rattle.search_frames.specs.WaysFrom.{IsWayFrom}
use Rattle.summary_chart.specs.declared.place_ways.Stop.{Stop}
use Rattle.summary_chart.specs.declared.state_set.StateSet.{StateSet}
use Rattle.summary_chart.specs.Spreading.{AreGoingFurther, EveryKey, GoesFurtherBy}
use Rattle.summary_chart.specs.PlaceWays.{AreFew, AreLateStops, HasEachKey, HaveLivingWays, IsLivingKey, IsLivingPart, indices_of, narrowed, stop_at, ways_of}
use Rattle.summary_chart.proofs.KeptWays.{keys_found, ways_at}
use Rattle.summary_chart.proofs.LateStops.{few_still}
use Rattle.summary_chart.proofs.NarrowedStops.{at_number, still_living}
use Rattle.summary_chart.proofs.StopIndices.{narrowed_indices}
use Rattle.summary_chart.proofs.TableItems.{read_set}
use Rattle.summary_chart.proofs.SummarySteps.{ways_within}
use Rattle.summary_chart.proofs.passes.gather_from.Goals as goal

pub gather_ways-living-requires-clause-ways : goal.gather_ways-living-requires-clause-ways
gather_ways-living-requires-clause-ways g c =
    let searched = c.args.site.lexicon.now in
    let line = c.args.site.line.now in
    let choices = c.args.site.choices.now in
    let place = c.args.site.place.now in
    let table = c.args.table.now in
    let stops = c.args.kept.now.stops.items in
    let ways = c.args.kept.now.ways.items in
    let is = c.in-Some.ensures.found in
    let stop = stop_at stops c.in-Some.number in
    let read : c.index.result.now ≡ stop =
    get_or_read stops c.in-Some.number c.index.result.now is.below c.index.ensures (record { index = 0; first = 0; end = 0 }) in
    let found = at_number searched line choices c.args.visit.index place.at place.entrance table c.requires.table c.requires.indexed stops ways c.requires.kept
    c.in-Some.number is in
    let are = ways_at searched line choices c.args.visit.index place.at place.entrance table c.requires.table c.requires.indexed stops ways (ways_of ways stop)
    c.requires.kept found place.state c.requires.site.place in
    subst (All (IsWayFrom searched line choices (numbered_of searched place))) (sym (c.of.ensures ∙ ap (ways_of ways) read)) are.each

pub gather_ways-living-requires-clause-all : goal.gather_ways-living-requires-clause-all
gather_ways-living-requires-clause-all g c =
    let searched = c.args.site.lexicon.now in
    let line = c.args.site.line.now in
    let choices = c.args.site.choices.now in
    let place = c.args.site.place.now in
    let table = c.args.table.now in
    let stops = c.args.kept.now.stops.items in
    let ways = c.args.kept.now.ways.items in
    let is = c.in-Some.ensures.found in
    let stop = stop_at stops c.in-Some.number in
    let read : c.index.result.now ≡ stop =
    get_or_read stops c.in-Some.number c.index.result.now is.below c.index.ensures (record { index = 0; first = 0; end = 0 }) in
    let found = at_number searched line choices c.args.visit.index place.at place.entrance table c.requires.table c.requires.indexed stops ways c.requires.kept
    c.in-Some.number is in
    let each = keys_found searched line choices c.args.visit.index place.at place.entrance table c.requires.table c.requires.indexed stops ways (ways_of ways stop)
    c.requires.kept found in
    let Goes = GoesFurtherBy searched line choices table in
    subst (HasEachKey searched Goes place.at place.entrance c.index-states.result.now) (sym (c.of.ensures ∙ ap (ways_of ways) read))
    (subst (λ (set : StateSet). HasEachKey searched Goes place.at place.entrance set (ways_of ways stop))
    (read_set table c.args.visit.index c.index-states.result.now c.requires.there c.index-states.ensures) each)

pub returns-clause-kept : goal.returns-clause-kept
returns-clause-kept g c =
    let searched = c.args.site.lexicon.now in
    let line = c.args.site.line.now in
    let choices = c.args.site.choices.now in
    let place = c.args.site.place.now in
    let table = c.args.table.now in
    let stops = c.args.kept.now.stops.items in
    let ways = c.args.kept.now.ways.items in
    let is = c.in-Some.ensures.found in
    let stop = stop_at stops c.in-Some.number in
    let read : c.index.result.now ≡ stop =
    get_or_read stops c.in-Some.number c.index.result.now is.below c.index.ensures (record { index = 0; first = 0; end = 0 }) in
    let first = c.gather_ways-living.result.first in
    let end = c.gather_ways-living.result.end in
    let part = subst (λ (set : StateSet). IsLivingPart (IsLivingKey searched line choices table place.at place.entrance set) (ways_of ways stop) first end)
    (sym (read_set table c.args.visit.index c.index-states.result.now c.requires.there c.index-states.ensures))
    (subst (λ (found : List Way). IsLivingPart (IsLivingKey searched line choices table place.at place.entrance c.index-states.result.now) found first end)
    (c.of.ensures ∙ ap (ways_of ways) read) c.gather_ways-living.ensures.part) in
    let still = still_living searched line choices c.args.visit.index place.at place.entrance table c.requires.table c.requires.indexed stops ways
    c.requires.kept c.in-Some.number is first end part in
    subst (λ (s : List Stop). HaveLivingWays searched line choices table s c.narrow.new.self.ways.items) (sym c.narrow.ensures.stops)
    (subst (λ (w : List Way). HaveLivingWays searched line choices table (slice_set stops c.in-Some.number (narrowed stop first end)) w) (sym c.narrow.ensures.ways) still)

pub returns-in_default-clause-gathers : goal.returns-in_default-clause-gathers
returns-in_default-clause-gathers g c =
    let site = c.args.site in
    let place = site.place.now in
    subst (λ (set : StateSet). AreGoingFurther site.lexicon.now site.line.now site.choices.now c.args.table.now place.at place.entrance set EveryKey c.in_ok-living.living)
    (sym (read_set c.args.table.now c.args.visit.index c.index-states.result.now c.requires.there c.index-states.ensures)) c.in_ok-living.ensures.gathers

pub returns-clause-gathers : goal.returns-clause-gathers
returns-clause-gathers g c =
    let site = c.args.site in
    let place = site.place.now in
    subst (λ (set : StateSet). AreGoingFurther site.lexicon.now site.line.now site.choices.now c.args.table.now place.at place.entrance set EveryKey
    c.gather_ways-living.result.states)
    (sym (read_set c.args.table.now c.args.visit.index c.index-states.result.now c.requires.there c.index-states.ensures)) c.gather_ways-living.ensures.gathers

pub returns-clause-late : goal.returns-clause-late
returns-clause-late g c =
    let site = c.args.site in
    let Are = AreLateStops site.lexicon.now site.line.now site.choices.now c.args.table.now in
    subst (λ (s : List Stop). Are s c.narrow.new.self.ways.items) (sym c.narrow.ensures.late)
    (subst (Are c.args.kept.now.late.items) (sym c.narrow.ensures.ways) c.requires.late)

pub returns-clause-few : goal.returns-clause-few
returns-clause-few g c =
    let site = c.args.site in
    let kept = c.args.kept.now in
    let new = c.narrow.new.self in
    subst (AreFew site.lexicon.now site.line.now (new.stops.items ++ new.late.items)) (sym c.narrow.ensures.ways)
    (few_still site.lexicon.now site.line.now site.choices.now kept.stops.items kept.late.items new.stops.items new.late.items kept.ways.items
    (ap length c.narrow.ensures.stops ∙ length-set kept.stops.items c.in-Some.number
    (narrowed (stop_at kept.stops.items c.in-Some.number) c.gather_ways-living.result.first c.gather_ways-living.result.end))
    c.narrow.ensures.late c.requires.few)

pub returns-clause-indices : goal.returns-clause-indices
returns-clause-indices g c =
    ap indices_of c.narrow.ensures.stops
    ∙ narrowed_indices c.args.kept.now.stops.items c.in-Some.number c.gather_ways-living.result.first c.gather_ways-living.result.end

pub returns-clause-steps : goal.returns-clause-steps
returns-clause-steps g c most few =
    let searched = c.args.site.lexicon.now in
    let line = c.args.site.line.now in
    let choices = c.args.site.choices.now in
    let place = c.args.site.place.now in
    let table = c.args.table.now in
    let stops = c.args.kept.now.stops.items in
    let ways = c.args.kept.now.ways.items in
    let is = c.in-Some.ensures.found in
    let stop = stop_at stops c.in-Some.number in
    let read : c.index.result.now ≡ stop =
    get_or_read stops c.in-Some.number c.index.result.now is.below c.index.ensures (record { index = 0; first = 0; end = 0 }) in
    let found = at_number searched line choices c.args.visit.index place.at place.entrance table c.requires.table c.requires.indexed stops ways c.requires.kept
    c.in-Some.number is in
    let are = ways_at searched line choices c.args.visit.index place.at place.entrance table c.requires.table c.requires.indexed stops ways (ways_of ways stop)
    c.requires.kept found place.state c.requires.site.place in
    let many = ap length (c.of.ensures ∙ ap (ways_of ways) read) in
    let less = ways_within searched most (length c.of.result.now) c.requires.site.searched (let low = are.few in omega (arith, low, many)) in
    let spent = c.gather_ways-living.ensures.steps in
    omega (arith, less, spent)
