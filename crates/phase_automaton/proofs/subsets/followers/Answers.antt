-- One position more, which follows where the set has its number.
use Rattle.std.proofs.Common.{◌≡◌, ℕ, ◌+◌, ◌<◌, ◌↔◌, ◌⊎◌, inl, inr, Bool, IsTrue, List, length, arith, subst, sym, refl}
use Rattle.std.proofs.lemmas.Bool.{cases_eq, cases_lt}
use Rattle.phase_automaton.specs.declared.position_set.PositionSet.{PositionSet}
use Rattle.phase_automaton.specs.declared.position.Position.{Position}
use Rattle.phase_automaton.specs.PositionSets.{HasPosition}
use Rattle.phase_automaton.specs.Names.{opening_position}
use Rattle.phase_automaton.specs.Pieces.{position_at, Follows}
use Rattle.std.proofs.lemmas.List.{get_or_past}
use Rattle.std.proofs.lemmas.Nat.Bits.{bit_at-zero}
use Rattle.phase_automaton.proofs.subsets.followers.Goals as goal

-- what follows the positions so far, and those of the next number
more : (positions : List Position) (set old new : PositionSet) (number : ℕ) (has : Bool) (here : PositionSet)
    → (IsTrue has ↔ HasPosition set number) → here ≡ (position_at positions number).follow
    → ((position : ℕ) → HasPosition new position ↔ (HasPosition old position ⊎ (IsTrue has × HasPosition here position)))
    → ((position : ℕ) → HasPosition old position ↔ ((earlier : ℕ) × (earlier < number) × HasPosition set earlier × Follows positions earlier position))
    → (position : ℕ) → HasPosition new position ↔ ((earlier : ℕ) × (earlier < number + 1) × HasPosition set earlier × Follows positions earlier position)
more positions set old new number has here tells is union before position = (
  (λ h. elim ((union position).0 h) [
    | inl x ↦ let e = (before position).0 x in (e.0, omega (arith, e.1), e.2, e.3)
    | inr x ↦ (number, omega arith, tells.0 x.0, subst (λ (s : PositionSet). HasPosition s position) is x.1)
  ]),
  (λ h. (union position).1 (elim (cases_eq h.0 number) [
    | inl e ↦ inr (tells.1 (subst (λ k. HasPosition set k) e h.2), subst (λ (s : PositionSet). HasPosition s position) (sym is) (subst (λ k. Follows positions k position) e h.3))
    | inr d ↦ inl ((before position).1 (h.0, omega (arith, h.1), h.2, h.3))
  ])),
)

pub loop-number-preserved : goal.loop-number-preserved
loop-number-preserved c =
    more c.args.positions.now c.args.set c.loop-number.followers c.union_if-followers.result c.loop-number.number c.has.result
    _ c.has.ensures refl c.union_if-followers.ensures c.loop-number.invariant

-- a position past the end is followed by no position
past_none : (positions : List Position) (earlier position : ℕ) → Follows positions earlier position → earlier < length positions
past_none positions earlier position h = elim (cases_lt earlier (length positions)) [
  | inl below ↦ below
  | inr past ↦
      let z = bit_at-zero position in
      let e = subst (λ (p : Position). HasPosition p.follow position) (get_or_past positions earlier opening_position past) h in
      absurd (omega (arith, e, z))
]

pub returns : goal.returns
returns c position = (
  (λ h. let e = (c.loop-number.invariant position).0 h in (e.0, e.2, e.3)),
  (λ h.
      let within = past_none c.args.positions.now h.0 position h.2 in
      (c.loop-number.invariant position).1 (h.0, omega (arith, within), h.1, h.2)),
)
