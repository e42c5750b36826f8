-- A test of every number below a bound, which the prover computes, holds of each of them.
use Rattle.std.proofs.Common.{◌≡◌, ℕ, zero, suc, ◌<◌, Bool, true, false, cond, arith, subst, inl, inr, refl}
use Rattle.std.proofs.lemmas.Bool.{cases_lt}

-- the test passes at each number below the bound
abbrev pub passes_below : ℕ → (ℕ → Bool) → Bool
passes_below zero test = true
passes_below (suc n) test = cond (test n) (passes_below n test) false

both : (a b : Bool) → cond a b false ≡ true → (a ≡ true) × (b ≡ true)
both true b h = (refl, h)
both false b h = absurd (cc)

-- what passes at each number below the bound passes at this one
pub passes_at : (n : ℕ) (test : ℕ → Bool) → passes_below n test ≡ true → (k : ℕ) → k < n → test k ≡ true
passes_at zero test h k below = absurd (omega arith)
passes_at (suc n) test h k below =
    let parts = both (test n) (passes_below n test) h in
    elim (cases_lt k n) [
      | inl smaller ↦ passes_at n test parts.1 k smaller
      | inr larger ↦ let same : n ≡ k = omega arith in subst (λ m. test m ≡ true) same parts.0
    ]
