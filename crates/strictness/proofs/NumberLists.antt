-- Lists of numbers that are made in one loop: over all numbers below a bound, or over candidates among which all that are
-- wanted are.
use Rattle.std.proofs.Common.{◌≡◌, ℕ, ◌+◌, ◌<◌, ◌≤◌, ◌⊎◌, inl, inr, List, [], ◌∷◌, ◌++◌, length, take, get_or, sym, subst, arith}
use Rattle.std.specs.List.{Contains}
use Rattle.std.specs.List.Sorted.{IsStrictlySortedBy}
use Rattle.std.specs.Ordering.{nat_cmp}
use Rattle.std.specs.Cmp.{nat_cmp_is}
use Rattle.std.specs.declared.cmp.Ordering.TheVariants.{Less}
use Rattle.std.proofs.lemmas.Bool.{cases_lt}
use Rattle.std.proofs.lemmas.List.{take_all}
use Rattle.list_laws.specs.Firsts.{AreAll}
use Rattle.list_laws.proofs.FirstOnes.{none_at_all, one_in_all, all_with, all_of_both}
use Rattle.list_laws.proofs.Sorted.{not_Contains-nil}
use Rattle.strictness.proofs.KeyLoops.{earlier_is_less, taken_before, taken_here, taken_cases}

module _ (P : ℕ → Type 0) where
  -- passes, and is below the bound
  abbrev pub IsBelow : ℕ → ℕ → Type 0
  IsBelow bound n = P n × (n < bound)

  pub none_below : AreAll nat_cmp (IsBelow 0) []
  none_below = none_at_all nat_cmp (IsBelow 0) (λ n h. omega (arith, h.1))

  pub passes : (bound : ℕ) (xs : List ℕ) → P bound → AreAll nat_cmp (IsBelow bound) xs → AreAll nat_cmp (IsBelow (bound + 1)) (xs ++ bound ∷ [])
  passes bound xs here all =
      let Q : ℕ → Type 0 = λ n. n ≡ bound in
      all_with nat_cmp (λ n. IsBelow bound n ⊎ Q n) (IsBelow (bound + 1)) (xs ++ bound ∷ [])
      (λ n h. elim h [ inl b ↦ (b.0, omega (arith, b.1)) | inr e ↦ (subst P (sym e) here, omega (arith, e)) ])
      (λ n h. elim (cases_lt n bound) [ inl below ↦ inl (h.0, below) | inr above ↦ inr (omega (arith, h.1)) ])
      (all_of_both nat_cmp (IsBelow bound) Q xs (bound ∷ []) all (one_in_all nat_cmp Q bound (λ i. bound) (λ n e. e))
      (λ n m p q. sym (nat_cmp_is n m Less (omega (arith, p.1, q)))))

  pub fails : (bound : ℕ) (xs : List ℕ) → (P bound → ⊥) → AreAll nat_cmp (IsBelow bound) xs → AreAll nat_cmp (IsBelow (bound + 1)) xs
  fails bound xs not all =
      all_with nat_cmp (IsBelow bound) (IsBelow (bound + 1)) xs (λ n h. (h.0, omega (arith, h.1)))
      (λ n h. elim (cases_lt n bound) [
        | inl below ↦ (h.0, below)
        | inr above ↦ absurd (not (subst P (omega (arith, h.1)) h.0))
      ]) all

  pub all_below : (bound : ℕ) (xs : List ℕ) → ((n : ℕ) → P n → n < bound) → AreAll nat_cmp (IsBelow bound) xs → AreAll nat_cmp P xs
  all_below bound xs within all = all_with nat_cmp (IsBelow bound) P xs (λ n h. h.0) (λ n p. (p, within n p)) all

  -- passes, and is among the first so many candidates
  abbrev pub IsAmong : List ℕ → ℕ → ℕ → Type 0
  IsAmong candidates count n = P n × Contains (take count candidates) n

  pub none_among : (candidates : List ℕ) → AreAll nat_cmp (IsAmong candidates 0) []
  none_among candidates = none_at_all nat_cmp (IsAmong candidates 0) (λ n h. not_Contains-nil n h.1)

  pub candidate_passes : (candidates : List ℕ) (i : ℕ) (xs : List ℕ) → IsStrictlySortedBy nat_cmp candidates → i < length candidates
      → P (get_or candidates i 0) → AreAll nat_cmp (IsAmong candidates i) xs
      → AreAll nat_cmp (IsAmong candidates (i + 1)) (xs ++ get_or candidates i 0 ∷ [])
  candidate_passes candidates i xs sorted below here all =
      let this = get_or candidates i 0 in
      let Q : ℕ → Type 0 = λ n. n ≡ this in
      all_with nat_cmp (λ n. IsAmong candidates i n ⊎ Q n) (IsAmong candidates (i + 1)) (xs ++ this ∷ [])
      (λ n h. elim h [
        | inl b ↦ (b.0, taken_before candidates i 0 n below b.1)
        | inr e ↦ (subst P (sym e) here, taken_here candidates i 0 n below e)
      ])
      (λ n h. elim (taken_cases candidates i 0 n below h.1) [ inl m ↦ inl (h.0, m) | inr e ↦ inr e ])
      (all_of_both nat_cmp (IsAmong candidates i) Q xs (this ∷ []) all (one_in_all nat_cmp Q this (λ i. this) (λ n e. e))
      (λ n m p q. subst (λ k. nat_cmp n k ≡ Less) (sym q) (earlier_is_less nat_cmp candidates i 0 n sorted below p.1)))

  pub candidate_fails : (candidates : List ℕ) (i : ℕ) (xs : List ℕ) → i < length candidates → (P (get_or candidates i 0) → ⊥)
      → AreAll nat_cmp (IsAmong candidates i) xs → AreAll nat_cmp (IsAmong candidates (i + 1)) xs
  candidate_fails candidates i xs below not all =
      all_with nat_cmp (IsAmong candidates i) (IsAmong candidates (i + 1)) xs
      (λ n h. (h.0, taken_before candidates i 0 n below h.1))
      (λ n h. elim (taken_cases candidates i 0 n below h.1) [ inl m ↦ (h.0, m) | inr e ↦ absurd (not (subst P e h.0)) ]) all

  pub all_among : (candidates : List ℕ) (count : ℕ) (xs : List ℕ) → length candidates ≤ count → ((n : ℕ) → P n → Contains candidates n)
      → AreAll nat_cmp (IsAmong candidates count) xs → AreAll nat_cmp P xs
  all_among candidates count xs enough complete all =
      all_with nat_cmp (IsAmong candidates count) P xs (λ n h. h.0)
      (λ n p. (p, subst (λ ks. Contains ks n) (sym (take_all count candidates enough)) (complete n p))) all

-- ---- all numbers below a bound

pub no_number : AreAll nat_cmp (λ n. n < 0) []
no_number = none_at_all nat_cmp (λ n. n < 0) (λ n h. omega (arith, h))

pub next_number : (bound : ℕ) (xs : List ℕ) → AreAll nat_cmp (λ n. n < bound) xs → AreAll nat_cmp (λ n. n < bound + 1) (xs ++ bound ∷ [])
next_number bound xs all =
    let Q : ℕ → Type 0 = λ n. n ≡ bound in
    all_with nat_cmp (λ n. (n < bound) ⊎ Q n) (λ n. n < bound + 1) (xs ++ bound ∷ [])
    (λ n h. elim h [ inl b ↦ omega (arith, b) | inr e ↦ omega (arith, e) ])
    (λ n h. elim (cases_lt n bound) [ inl below ↦ inl below | inr above ↦ inr (omega (arith, h, above)) ])
    (all_of_both nat_cmp (λ n. n < bound) Q xs (bound ∷ []) all (one_in_all nat_cmp Q bound (λ i. bound) (λ n e. e))
    (λ n m p q. sym (nat_cmp_is n m Less (omega (arith, p, q)))))

pub all_numbers : (bound count : ℕ) (xs : List ℕ) → bound ≡ count → AreAll nat_cmp (λ n. n < bound) xs → AreAll nat_cmp (λ n. n < count) xs
all_numbers bound count xs e all = subst (λ b. AreAll nat_cmp (λ n. n < b) xs) e all
