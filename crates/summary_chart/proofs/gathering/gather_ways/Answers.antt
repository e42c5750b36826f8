-- Each way tells which states go further by its key, and is living where some do; at the end the keys of all ways have, and none goes further
-- by another key.
use Rattle.std.proofs.Common.{◌↔◌, ◌⊎◌, inl, inr, ℕ, ◌+◌, sym, subst, arith}
use Rattle.search_frames.specs.WaysFrom.{key_of_way}
use Rattle.summary_chart.specs.declared.gathering.LivingWays.{LivingWays}
use Rattle.summary_chart.specs.declared.state_set.StateSet.{StateSet}
use Rattle.summary_chart.specs.PlaceWays.{IsLivingKey}
use Rattle.summary_chart.specs.StateSets.{HasState}
use Rattle.summary_chart.specs.Spreading.{EveryKey, GathersMore, OnlyKey}
use Rattle.summary_chart.proofs.LivingParts.{HasLivingPart, part_stays, part_begins, part_grows, living_part, living_if_some, dead_if_none}
use Rattle.summary_chart.proofs.Visits.{gather_visit, gathers_found, all_further}
use Rattle.summary_chart.proofs.WayKeys.{IsAmongFirst, IsWayAt, visit_way, visit_all_ways}
use Rattle.summary_chart.proofs.gathering.gather_ways.Goals.{then-living-eq0, else-living-eq0}
use Rattle.summary_chart.proofs.gathering.gather_ways.Goals as goal

-- no states put to others
none_put : (states none : StateSet) → ((number : ℕ) → HasState none number → ⊥) → (number : ℕ)
    → HasState states number ↔ (HasState states number ⊎ HasState none number)
none_put states none nothing number = (
  λ has. inl has,
  λ either. elim either [
    | inl has ↦ has
    | inr has ↦ absurd (nothing number has)
  ],
)

pub loop-number-preserved-then-is_empty : goal.loop-number-preserved-then-is_empty
loop-number-preserved-then-is_empty g c =
    let searched = c.args.site.lexicon.now in
    let line = c.args.site.line.now in
    let choices = c.args.site.choices.now in
    let place = c.args.site.place.now in
    let states = c.args.states in
    let table = c.args.table.now in
    let ways = c.args.ways.now in
    let number = c.loop-number.number in
    let way = c.index-ways-number.result in
    let key = key_of_way way in
    let living = c.loop-number.living in
    let further = c.states_by_way-further.result in
    let at : IsWayAt ways number way = record { below = c.loop-number-test.true; is = c.index-ways-number.is } in
    let inv = c.loop-number.invariant in
    record {
      low = omega (arith, c.loop-number-test.true);
      gathers = λ empty nothing. visit_way searched line choices place StateSet (gather_visit searched line choices place states table) ways
          number way at empty living.states living.states (inv.gathers empty nothing)
          (gathers_found searched line choices place states table (OnlyKey key) living.states further living.states c.states_by_way-further.ensures
          (none_put living.states further c.if-is_empty.ensures));
      part = part_stays (IsLivingKey searched line choices table place.at place.entrance states) ways number living.first living.end way at inv.part
          (dead_if_none searched line choices table place.at place.entrance states further key c.states_by_way-further.ensures c.if-is_empty.ensures);
      spent = omega (arith, inv.spent, c.tick.ensures);
    }

pub loop-number-preserved : goal.loop-number-preserved
loop-number-preserved g c =
    let searched = c.args.site.lexicon.now in
    let line = c.args.site.line.now in
    let choices = c.args.site.choices.now in
    let place = c.args.site.place.now in
    let states = c.args.states in
    let table = c.args.table.now in
    let ways = c.args.ways.now in
    let number = c.loop-number.number in
    let way = c.index-ways-number.result in
    let key = key_of_way way in
    let old = c.loop-number.living in
    let new = c.if-living-eq0.living in
    let further = c.states_by_way-further.result in
    let IsLiving = IsLivingKey searched line choices table place.at place.entrance states in
    let at : IsWayAt ways number way = record { below = c.loop-number-test.true; is = c.index-ways-number.is } in
    let inv = c.loop-number.invariant in
    let lives = living_if_some searched line choices table place.at place.entrance states further key c.states_by_way-further.ensures c.if-is_empty.ensures in
    let gathers = λ (empty : StateSet) (nothing : (n : ℕ) → HasState empty n → ⊥).
    visit_way searched line choices place StateSet (gather_visit searched line choices place states table) ways
    number way at empty old.states c.union-living.result (inv.gathers empty nothing)
    (gathers_found searched line choices place states table (OnlyKey key) old.states further c.union-living.result c.states_by_way-further.ensures
    c.union-living.ensures) in
    let Gathers : LivingWays → Type 0 = λ (living : LivingWays). (empty : StateSet) → ((n : ℕ) → HasState empty n → ⊥)
    → GathersMore searched line choices table place.at place.entrance states (IsAmongFirst (number + 1) ways) empty living.states in
    let Part : LivingWays → Type 0 = λ (living : LivingWays). HasLivingPart IsLiving ways (number + 1) living.first (number + 1) in
    elim c.if-living-eq0.branch [
      | then-living-eq0 w ↦ record {
        low = omega (arith, c.loop-number-test.true);
        gathers = subst Gathers (sym w.living-is) gathers;
        part = subst Part (sym w.living-is)
            (part_begins IsLiving ways number old.first old.end way at inv.part (omega (arith, w.if-living-eq0.true)) lives);
        spent = omega (arith, inv.spent, c.tick.ensures);
      }
      | else-living-eq0 w ↦ record {
        low = omega (arith, c.loop-number-test.true);
        gathers = subst Gathers (sym w.living-is) gathers;
        part = subst Part (sym w.living-is)
            (part_grows IsLiving ways number old.first old.end way at inv.part (omega (arith, w.if-living-eq0.false)) lives);
        spent = omega (arith, inv.spent, c.tick.ensures);
      }
    ]

pub returns-clause-gathers : goal.returns-clause-gathers
returns-clause-gathers g c =
    let searched = c.args.site.lexicon.now in
    let line = c.args.site.line.now in
    let choices = c.args.site.choices.now in
    let place = c.args.site.place.now in
    let states = c.args.states in
    let table = c.args.table.now in
    let none = c.empty.ensures.none in
    let found = c.loop-number.living.states in
    all_further searched line choices place states table EveryKey c.empty.result found none
    (visit_all_ways searched line choices place StateSet (gather_visit searched line choices place states table) c.args.ways.now
    c.loop-number.number c.loop-number-test.false (λ key does. c.requires.all does.0 key does.1 does.2)
    c.empty.result found (c.loop-number.invariant.gathers c.empty.result none))

pub returns-clause-part : goal.returns-clause-part
returns-clause-part g c =
    let inv = c.loop-number.invariant in
    let place = c.args.site.place.now in
    living_part (IsLivingKey c.args.site.lexicon.now c.args.site.line.now c.args.site.choices.now c.args.table.now place.at place.entrance c.args.states)
    c.args.ways.now c.loop-number.number c.loop-number.living.first c.loop-number.living.end inv.low c.loop-number-test.false inv.part
