-- The numbers of a set by its bits: std's laws on single bits.
use Rattle.std.proofs.Common.{◌≡◌, ℕ, suc, ◌+◌, ◌*◌, ◌/◌, ◌%◌, ◌^◌, ◌<◌, ◌==◌, ◌↔◌, ◌⊎◌, inl, inr, not, bit_and, bit_or, sym, ◌∙◌, ap, arith}
use Rattle.std.specs.Prelude.{IsTrue}
use Rattle.std.specs.Int.{bit_at, w64}
use Rattle.std.proofs.lemmas.Bool.{cases_eq, eqb-false, ne_eqb, not-true, not_from_false}
use Rattle.std.proofs.lemmas.Nat.{one_shl, pow_pos}
use Rattle.std.proofs.lemmas.Nat.Bits.{bit_at-zero, bit_at-suc, bit_at-lt, bit_at_or, bit_at_ones, bit_at_set_same, bit_at_set_other, and_pow}
use Rattle.trie_checks.specs.NumberSets.{HasNumber}

pub no_number : (n : ℕ) → HasNumber 0 n → ⊥
unfolding HasNumber
no_number n has = let none = bit_at-zero n in absurd (omega (arith, none, has))

pub number_added : (set number n : ℕ) → number < 64
    → HasNumber (bit_or set (1 * 2 ^ number % 2 ^ 64)) n ↔ (HasNumber set n ⊎ (number ≡ n))
unfolding HasNumber
number_added set number n low =
    elim (cases_eq n number) [
      | inl same ↦ (
        λ has. inr (sym same),
        λ either. ap (bit_at (bit_or set (1 * 2 ^ number % 2 ^ 64))) same ∙ bit_at_set_same w64 set number low,
      )
      | inr apart ↦
          let kept = bit_at_set_other w64 set number low n apart in (
            λ has. inl (sym kept ∙ has),
            elim [ inl has ↦ kept ∙ has | inr same ↦ absurd (apart (sym same)) ],
          )
    ]

pub numbers_of_both : (left right n : ℕ) → HasNumber (bit_or left right) n ↔ (HasNumber left n ⊎ HasNumber right n)
unfolding HasNumber
numbers_of_both left right n =
    let both = bit_at_or left right n in
    let first = bit_at-lt left n in
    let second = bit_at-lt right n in (
      λ has.
          elim (cases_eq (bit_at left n) 1) [
            | inl holds ↦ inl holds
            | inr lacks ↦ inr (omega (arith, both, first, second, has, lacks))
          ],
      elim [ inl holds ↦ omega (arith, both, second, holds) | inr holds ↦ omega (arith, both, first, holds) ],
    )

pub number_lowered : (set n : ℕ) → HasNumber (set / 2) n ↔ HasNumber set (n + 1)
unfolding HasNumber
number_lowered set n =
    let next : n + 1 ≡ suc n = omega arith in
    let same = ap (bit_at set) next ∙ bit_at-suc set n in
    (λ has. same ∙ has, λ has. sym same ∙ has)

pub number_tested : (set n : ℕ) → n < 64 → IsTrue (not (bit_and set (1 * 2 ^ n % 2 ^ 64) == 0)) ↔ HasNumber set n
unfolding HasNumber
number_tested set n low =
    let shifted = one_shl n 64 low in
    let product = ap (bit_and set) shifted ∙ and_pow set n in
    let some = pow_pos n in
    let bit = bit_and set (1 * 2 ^ n % 2 ^ 64) in (
      λ other.
          elim (cases_eq (bit_at set n) 1) [
            | inl holds ↦ holds
            | inr lacks ↦
                let less = bit_at-lt set n in
                let none : bit_at set n ≡ 0 = omega (arith, less, lacks) in
                absurd (eqb-false bit 0 (not-true (bit == 0) other) (product ∙ ap (λ b. b * 2 ^ n) none ∙ omega arith))
          ],
      λ has.
          let one : bit_at set n * 2 ^ n ≡ 2 ^ n = ap (λ b. b * 2 ^ n) has ∙ omega arith in
          not_from_false (bit == 0) (ne_eqb bit 0 (λ none. omega (arith, some, one, product, none))),
    )

-- the set of all numbers below 64
pub every_has : (n : ℕ) → n < 64 → HasNumber 18446744073709551615 n
unfolding HasNumber
every_has n low = bit_at_ones 64 n low
