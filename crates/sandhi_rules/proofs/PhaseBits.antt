-- A set of phases as the bits of a number: a shift tests a bit.
use Rattle.std.proofs.Common.{◌≡◌, ℕ, ◌<◌, ◌≤◌, ◌^◌, ◌/◌, ◌↔◌, IsTrue, nat_eq, bit_and, refl, arith}
use Rattle.std.proofs.Math.Nat.{div-eq_of_lt}
use Rattle.std.proofs.Math.Pow.{pow_mono}
use Rattle.std.proofs.lemmas.Bool.{eqb-true, eq-eqb}
use Rattle.std.proofs.lemmas.Nat.{bit_set_by_shift}
use Rattle.lexicon_definitions.specs.Rules.{HasPhase}

-- a shift tests a bit
pub bit_tested : (phases phase : ℕ) → IsTrue (nat_eq (bit_and (phases / 2 ^ phase) 1) 1) ↔ HasPhase phases phase
bit_tested phases phase =
    (λ t. (bit_set_by_shift phases phase).0 (eqb-true _ _ t), λ h. eq-eqb _ _ ((bit_set_by_shift phases phase).1 h))

-- a set of sixteen bits has no later one
pub no_later_bit : (phases phase : ℕ) → phases < 2 ^ 16 → 16 ≤ phase → HasPhase phases phase → ⊥
no_later_bit phases phase low high h =
    let more : 2 ^ 16 ≤ 2 ^ phase = pow_mono high in
    let below : phases < 2 ^ phase = omega arith in
    let none : phases / 2 ^ phase ≡ 0 = div-eq_of_lt below in
    let bit = (bit_set_by_shift phases phase).1 h in
    let zero : bit_and (phases / 2 ^ phase) 1 ≡ 0 = rw none refl in
    absurd (omega (arith, bit, zero))
