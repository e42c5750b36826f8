-- The turn is that of `reach_from`, and where sets are empty nothing is to be done (`ReachedPlaces`, `KeptWays`); at the end the table is
-- closed everywhere.
use Rattle.std.proofs.Common.{◌∙◌, ◌≡◌, ◌+◌, ◌*◌, ◌&&◌, Bool, true, false, [], ℕ, List, refl, sym, subst, arith}
use Rattle.std.proofs.lemmas.Bool.{false≢true}
use Rattle.summary_chart.specs.declared.place_ways.Stop.{Stop}
use Rattle.summary_chart.specs.Charts.{IsReachedBefore, set_count}
use Rattle.summary_chart.specs.PlaceWays.{AreFew, HaveWaysBefore, indices_of}
use Rattle.summary_chart.specs.Summaries.{steps_of_items}
use Rattle.summary_chart.proofs.ReachedPlaces.{nothing_until, opened}
use Rattle.summary_chart.proofs.LivingMemos.{nothing_spread}
use Rattle.summary_chart.proofs.LivingReached.{has_reached}
use Rattle.summary_chart.proofs.KeptWays.{no_stops, none_few, until}
use Rattle.summary_chart.proofs.StopIndices.{all_stops, none_before, stops_on}
use Rattle.summary_chart.proofs.TableItems.{none_in_empty}
use Rattle.summary_chart.proofs.PassCosts.{frame_and_skip, one_frame_more}
use Rattle.summary_chart.proofs.SummarySteps.{places_twice}
use Rattle.summary_chart.proofs.passes.reach.Goals as goal

both_true : (one other : Bool) → (one && other) ≡ true → (one ≡ true) × (other ≡ true)
both_true true true both = (refl, refl)
both_true true false both = absurd (false≢true both)
both_true false other both = absurd (false≢true both)

pub loop-index-init : goal.loop-index-init
loop-index-init g c =
    let searched = c.args.passage.lexicon.now in
    let line = c.args.passage.line.now in
    let choices = c.args.passage.choices.now in
    let table = c.args.table.now in
    let stops = c.args.kept.now.stops.items in
    let ways = c.args.kept.now.ways.items in
    let empty = c.next_filled-index.ensures in
    let none = subst (λ (s : List Stop). HaveWaysBefore searched line choices 0 table s ways) (sym c.requires.stops)
    (subst (HaveWaysBefore searched line choices 0 table []) (sym c.requires.ways) (no_stops searched line choices table)) in
    record {
      before = nothing_until searched line choices 0 c.next_filled-index.result table (opened searched line choices table c.requires.opening) empty;
      kept = until searched line choices 0 c.next_filled-index.result table stops ways (omega arith) none;
      late = c.requires.late;
      few = subst (λ (s : List Stop). AreFew searched line s ways) (sym c.requires.stops)
          (subst (AreFew searched line []) (sym c.requires.ways) (none_few searched line choices));
      stops = λ told. stops_on searched line 0 c.next_filled-index.result table (indices_of stops)
          (none_in_empty searched line choices table c.requires.opening.lawful 0 c.next_filled-index.result empty) (none_before searched line table (indices_of stops));
      room = record {
        memo = nothing_spread searched line table c.args.room.now.walking.memo c.requires.memo c.requires.effects;
        walks = λ walked kept. absurd (c.requires.walks walked kept);
      };
      within = empty.within;
      steps = λ most few. omega arith;
    }

pub returns-in_err-each_has_stop-clause-steps : goal.returns-in_err-each_has_stop-clause-steps
returns-in_err-each_has_stop-clause-steps g c most few =
    let searched = c.args.passage.lexicon.now in
    let line = c.args.passage.line.now in
    let index = c.loop-index.index in
    let inv = c.loop-index.invariant in
    places_twice searched line most (index + 1) c.args.steps.now c.reach_from.new.steps
    (omega (arith, c.loop-index-test.true, c.len.ensures, c.loop-index.table.sets.ok, inv.before.lawful.count))
    (one_frame_more c.args.steps.now index (2 * steps_of_items searched most) c.loop-index.steps c.reach_from.new.steps (inv.steps most few)
    (c.reach_from.ensures.steps most few))

pub loop-index-preserved : goal.loop-index-preserved
loop-index-preserved g c =
    let searched = c.args.passage.lexicon.now in
    let line = c.args.passage.line.now in
    let choices = c.args.passage.choices.now in
    let index = c.loop-index.index in
    let inv = c.loop-index.invariant in
    let next = c.next_filled-index-in-loop-index.result in
    let empty = c.next_filled-index-in-loop-index.ensures in
    let from = c.in_ok-each_has_stop.ensures in
    let new = c.reach_from.new in
    record {
      before = nothing_until searched line choices (index + 1) next new.table from.before empty;
      kept = until searched line choices (index + 1) next new.table new.kept.stops.items new.kept.ways.items empty.rises from.kept;
      late = from.late ∙ inv.late;
      few = from.few;
      stops = λ told.
          let both = both_true c.loop-index.each_has_stop c.in_ok-each_has_stop.field-0 told in
          stops_on searched line (index + 1) next new.table (indices_of new.kept.stops.items)
          (none_in_empty searched line choices new.table from.before.lawful (index + 1) next empty) (from.stops both.1 (inv.stops both.0));
      room = from.room;
      within = empty.within;
      steps = λ most few. frame_and_skip c.args.steps.now index next (2 * steps_of_items searched most) c.loop-index.steps new.steps empty.rises
          (inv.steps most few) (c.reach_from.ensures.steps most few);
    }

pub returns-clause-reached : goal.returns-clause-reached
returns-clause-reached g c =
    let inv = c.loop-index.invariant in
    let all : c.loop-index.index ≡ set_count c.args.passage.lexicon.now c.args.passage.line.now =
    omega (arith, c.loop-index-test.false, c.len.ensures, c.loop-index.table.sets.ok, inv.within, inv.before.lawful.count) in
    has_reached c.args.passage.lexicon.now c.args.passage.line.now c.args.passage.choices.now c.loop-index.table c.requires.searched
    (subst (λ (n : ℕ). IsReachedBefore c.args.passage.lexicon.now c.args.passage.line.now c.args.passage.choices.now n c.loop-index.table) all inv.before) c.requires.line

pub returns-clause-stops : goal.returns-clause-stops
returns-clause-stops g c told =
    let searched = c.args.passage.lexicon.now in
    let line = c.args.passage.line.now in
    let inv = c.loop-index.invariant in
    let all : c.loop-index.index ≡ set_count searched line =
    omega (arith, c.loop-index-test.false, c.len.ensures, c.loop-index.table.sets.ok, inv.within, inv.before.lawful.count) in
    all_stops searched line c.loop-index.table c.loop-index.index (indices_of c.loop-index.kept.stops.items) all (inv.stops told)

pub returns-clause-steps : goal.returns-clause-steps
returns-clause-steps g c most few =
    let inv = c.loop-index.invariant in
    places_twice c.args.passage.lexicon.now c.args.passage.line.now most c.loop-index.index c.args.steps.now c.loop-index.steps
    (let within = inv.within in let count = inv.before.lawful.count in omega (arith, within, count)) (inv.steps most few)
