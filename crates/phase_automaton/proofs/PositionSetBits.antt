-- Sets as the bits of a number, bit by bit: a bit is 0 or 1, and a number that is not 0 has a bit.
use Rattle.std.proofs.Common.{◌≡◌, ◌≢◌, ◌⊎◌, inl, inr, ℕ, ◌*◌, ◌%◌, ◌^◌, ◌<◌, ◌↔◌, Bool, true, false, nat_eq, IsTrue, MatchBool, bit_and, bit_or, max, refl, sym, ◌∙◌, subst, arith}
use mathlib.Core.Bool.{not}
use Rattle.std.specs.Int.{bit_at, w64}
use Rattle.std.proofs.lemmas.Nat.Bits.{bit_at-lt, bit_at-zero, bit_at_and, bit_at_or, bit_at-pow_same, bit_at-pow_other, bit_at-trailing_zeros, same_from_bits}
use Rattle.std.specs.Int.{trailing_zeros}
use Rattle.std.proofs.lemmas.Nat.{pow_below}
use Rattle.std.proofs.Math.Nat.{mod-eq_of_lt}
use Rattle.std.proofs.lemmas.Bool.{cases_eq, eqb-true, eq-eqb, false≢true}

pub or_has : (a b p : ℕ) → (bit_at (bit_or a b) p ≡ 1) ↔ ((bit_at a p ≡ 1) ⊎ (bit_at b p ≡ 1))
or_has a b p =
    let x = bit_at-lt a p in
    let y = bit_at-lt b p in
    let e = bit_at_or a b p in
    ((λ h. go (bit_at a p) (bit_at b p) x y (sym e ∙ h)), (λ h. e ∙ back (bit_at a p) (bit_at b p) x y h))
  where
    go : (x y : ℕ) → x < 2 → y < 2 → max x y ≡ 1 → (x ≡ 1) ⊎ (y ≡ 1)
    go x y h k e = elim (cases_eq x 1) [ inl s ↦ inl s | inr d ↦ inr (omega arith) ]

    back : (x y : ℕ) → x < 2 → y < 2 → (x ≡ 1) ⊎ (y ≡ 1) → max x y ≡ 1
    back x y h k (inl e) = omega arith
    back x y h k (inr e) = omega arith

pub and_has : (a b p : ℕ) → (bit_at (bit_and a b) p ≡ 1) ↔ ((bit_at a p ≡ 1) × (bit_at b p ≡ 1))
and_has a b p =
    let x = bit_at-lt a p in
    let y = bit_at-lt b p in
    let e = bit_at_and a b p in
    ((λ h. (omega arith, omega arith)), (λ h. omega (arith, h.0, h.1)))

pub only_has : (k p : ℕ) → k < 64 → (bit_at (1 * 2 ^ k % 18446744073709551616) p ≡ 1) ↔ (p ≡ k)
only_has k p h =
    let small : 1 * 2 ^ k < 18446744073709551616 = omega (arith, pow_below k 64 h) in
    let e : 1 * 2 ^ k % 18446744073709551616 ≡ 2 ^ k = mod-eq_of_lt small ∙ omega arith in (
      (λ b. elim (cases_eq p k) [
        | inl s ↦ s
        | inr d ↦
            let z = bit_at-pow_other k p d in
            let b' : bit_at (2 ^ k) p ≡ 1 = subst (λ n. bit_at n p ≡ 1) e b in
            absurd (omega (arith, z, b'))
      ]),
      (λ s. subst (λ n. bit_at n p ≡ 1) (sym e) (subst (λ q. bit_at (2 ^ k) q ≡ 1) (sym s) (bit_at-pow_same k))),
    )

-- a number that is not 0 has a bit
pub has_some : (n : ℕ) → n < 2 ^ 64 → n ≢ 0 → (p : ℕ) × (p < 64) × (bit_at n p ≡ 1)
has_some n small h =
    let above : 0 < n = omega arith in
    let t = bit_at-trailing_zeros w64 n above small in
    (trailing_zeros w64 n, t.0, t.1)

-- equal sets are equal numbers
pub same_sets : (a b : ℕ) → ((p : ℕ) → (bit_at a p ≡ 1) ↔ (bit_at b p ≡ 1)) → a ≡ b
same_sets a b h = same_from_bits a b λ p. go (bit_at a p) (bit_at b p) (bit_at-lt a p) (bit_at-lt b p) (h p)
  where
    go : (x y : ℕ) → x < 2 → y < 2 → ((x ≡ 1) ↔ (y ≡ 1)) → x ≡ y
    go x y h k e = elim (cases_eq x 1) [
      | inl s ↦ s ∙ sym (e.0 s)
      | inr d ↦ elim (cases_eq y 1) [ inl s ↦ absurd (d (e.1 s)) | inr f ↦ omega arith ]
    ]

pub empty_cases : (n : ℕ) → n < 2 ^ 64 → (r : Bool) → nat_eq n 0 ≡ r
    → MatchBool r ((p : ℕ) → bit_at n p ≡ 1 → ⊥) ((p : ℕ) × (bit_at n p ≡ 1))
empty_cases n small true e = λ p b. let z = subst (λ m. bit_at m p ≡ 1) (eqb-true n 0 e) b in omega (arith, z, bit_at-zero p)
empty_cases n small false e =
    let p = has_some n small (λ z. false≢true (sym e ∙ eq-eqb n 0 z)) in
    (p.0, p.2)

not_true : (b : Bool) → IsTrue (not b) → b ≡ true → ⊥
not_true true h e = false≢true h
not_true false h e = false≢true e

not_eqb : (a b : ℕ) → a ≢ b → (r : Bool) → nat_eq a b ≡ r → IsTrue (not r)
not_eqb a b d true e = absurd (d (eqb-true a b e))
not_eqb a b d false e = refl

pub meets_has_both : (a b : ℕ) → bit_and a b < 2 ^ 64
    → IsTrue (not (nat_eq (bit_and a b) 0)) ↔ ((p : ℕ) × (bit_at a p ≡ 1) × (bit_at b p ≡ 1))
meets_has_both a b small = (
  (λ h.
      let some = has_some (bit_and a b) small (λ e. not_true (nat_eq (bit_and a b) 0) h (eq-eqb (bit_and a b) 0 e)) in
      let both = (and_has a b some.0).0 some.2 in
      (some.0, both.0, both.1)),
  (λ h. not_eqb (bit_and a b) 0
      (λ e. let one = subst (λ n. bit_at n h.0 ≡ 1) e ((and_has a b h.0).1 (h.1, h.2)) in omega (arith, one, bit_at-zero h.0))
      (nat_eq (bit_and a b) 0) refl),
)
