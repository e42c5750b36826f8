-- One walk more is kept, with the states that were known of it (`WalkSteps`).
use Rattle.std.proofs.Common.{◌≡◌, ◌<◌, inl, inr, ℕ, sym, subst, arith}
use Rattle.std.proofs.lemmas.Bool.{cases_lt}
use Rattle.summary_chart.specs.Levels.{IsFrontHere, IsSpreadOn}
use Rattle.summary_chart.proofs.WalkSteps.{walks_with}
use Rattle.summary_chart.proofs.spreading.keep_spread.Goals as goal

-- a number that is not zero is more
some_if_not : (number : ℕ) → (number ≡ 0 → ⊥) → 0 < number
some_if_not number not = elim (cases_lt 0 number) [
  | inl some ↦ some
  | inr none ↦ absurd (not (omega (arith, none)))
]

pub loop-one-init : goal.loop-one-init
loop-one-init g c = record { low = omega arith; walks = λ table were all. were; spent = omega arith }

pub from-walk-requires-clause-limit : goal.from-walk-requires-clause-limit
from-walk-requires-clause-limit g c =
    let one = c.one-item.result in
    (subst (IsFrontHere c.args.here) (sym c.one-item.is) (c.requires.walked c.loop-one.one-index one c.loop-one-test.true)).near

pub loop-one-preserved : goal.loop-one-preserved
loop-one-preserved g c =
    let inv = c.loop-one.invariant in
    let here = c.args.here in
    let site = here.site in
    let one = c.one-item.result in
    record {
      low = omega (arith, c.loop-one-test.true);
      walks = λ table were all. walks_with site.lexicon.now site.line.now table c.from-walk.result c.known_of_walk-known.result one.states c.union.result
          c.loop-one.walks c.keep.new.self c.in_ok-keep.ensures c.known_of_walk-known.ensures c.union.ensures
          (subst (IsSpreadOn here table) (sym c.one-item.is) (all c.loop-one.one-index one c.loop-one-test.true) (some_if_not one.front.taken c.if-one-eq0.false)
          c.from-walk.result c.from-walk.ensures)
          (inv.walks table were all);
      spent = (let spent = inv.spent in omega (arith, spent, c.tick.ensures));
    }
