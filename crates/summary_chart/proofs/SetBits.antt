-- Sets of states by the bits of a number, bit by bit: a bit is set where it is 1, and the lowest one that is set is the first state.
use Rattle.std.proofs.Common.{◌≡◌, ◌≢◌, ◌⊎◌, inl, inr, ℕ, ◌+◌, ◌-◌, ◌*◌, ◌%◌, ◌^◌, ◌<◌, ◌≤◌, ◌/◌, ◌↔◌, Bool, true, false, nat_eq, MatchBool, IsTrue, bit_and, bit_or, refl, sym, ◌∙◌, ap, arith}
use Rattle.std.specs.Int.{IsBitSet, bit_at, bit_not, trailing_zeros, leading_zeros, w32, w64}
use Rattle.std.proofs.lemmas.Bool.{cases_eq, cases_lt}
use Rattle.std.proofs.Math.Pow.{split}
use Rattle.std.proofs.lemmas.Nat.{bit_set_by_shift, and_le_l, shr-shr, leading_length, pow_pos}
use Rattle.std.proofs.lemmas.Nat.Bits.{shr_and_one, bit_at-zero, bit_at_above, bit_at_cat_low, bit_at_cat_high, same_from_bits, bit_at-trailing_zeros, bit_at_clear_same, bit_at_clear_other}
use Rattle.phase_automaton.proofs.PositionSetBits.{or_has, and_has, empty_cases}
use Rattle.sandhi_rules.proofs.PhaseBits.{bit_tested}
use Rattle.summary_chart.specs.StateSets.{IsSplitInto}

-- a bit is set where it is 1
pub bit_is : (bits number : ℕ) → IsBitSet bits number ↔ (bit_at bits number ≡ 1)
bit_is bits number =
    (λ h. sym (shr_and_one bits number) ∙ (bit_set_by_shift bits number).1 h, λ e. (bit_set_by_shift bits number).0 (shr_and_one bits number ∙ e))

-- a shift tests whether a state is in a set
pub has_tested : (bits number : ℕ) → IsTrue (nat_eq (bit_and (bits / 2 ^ number) 1) 1) ↔ IsBitSet bits number
has_tested = bit_tested

-- the states of either set
pub either_has : (left right number : ℕ) → IsBitSet (bit_or left right) number ↔ (IsBitSet left number ⊎ IsBitSet right number)
either_has left right number = (
  λ h. elim ((or_has left right number).0 ((bit_is (bit_or left right) number).0 h)) [
    | inl e ↦ inl ((bit_is left number).1 e)
    | inr e ↦ inr ((bit_is right number).1 e)
  ],
  λ h. (bit_is (bit_or left right) number).1 ((or_has left right number).1 (elim h [
    | inl e ↦ inl ((bit_is left number).0 e)
    | inr e ↦ inr ((bit_is right number).0 e)
  ])),
)

-- the states of both sets
pub both_have : (left right number : ℕ) → IsBitSet (bit_and left right) number ↔ (IsBitSet left number × IsBitSet right number)
both_have left right number = (
  λ h. let both = (and_has left right number).0 ((bit_is (bit_and left right) number).0 h) in
      ((bit_is left number).1 both.0, (bit_is right number).1 both.1),
  λ h. (bit_is (bit_and left right) number).1 ((and_has left right number).1 ((bit_is left number).0 h.0, (bit_is right number).0 h.1)),
)

by_bits : (bits : ℕ) (r : Bool) → MatchBool r ((number : ℕ) → bit_at bits number ≡ 1 → ⊥) ((number : ℕ) × (bit_at bits number ≡ 1))
    → MatchBool r ((number : ℕ) → IsBitSet bits number → ⊥) ((number : ℕ) × IsBitSet bits number)
by_bits bits true none = λ number h. none number ((bit_is bits number).0 h)
by_bits bits false some = (some.0, (bit_is bits some.0).1 some.1)

-- a set is empty where its number is 0
pub none_or_some : (bits : ℕ) → bits < 2 ^ 64
    → MatchBool (nat_eq bits 0) ((number : ℕ) → IsBitSet bits number → ⊥) ((number : ℕ) × IsBitSet bits number)
none_or_some bits small = by_bits bits (nat_eq bits 0) (empty_cases bits small (nat_eq bits 0) refl)

-- the first state of a set is that of its lowest bit
pub split_at_first : (bits : ℕ) → bits < 4294967296 → bits ≢ 0
    → IsSplitInto (record { bits = bits }) (trailing_zeros w32 bits) (record { bits = bit_and bits (bit_not w32 (1 * 2 ^ trailing_zeros w32 bits % 4294967296)) })
split_at_first bits small some =
    let first = trailing_zeros w32 bits in
    let others = bit_and bits (bit_not w32 (1 * 2 ^ first % 4294967296)) in
    let above : 0 < bits = omega arith in
    let lowest = bit_at-trailing_zeros w32 bits above small in
    let cleared : bit_at others first ≡ 0 = bit_at_clear_same w32 bits first lowest.0 in
    let lower : others ≤ bits = and_le_l bits (bit_not w32 (1 * 2 ^ first % 4294967296)) in
    let differ : others ≢ bits = λ e. omega (arith, cleared, lowest.1, ap (λ n. bit_at n first) e) in
    record {
      small = lowest.0;
      parts = λ number. (
        λ has. elim (cases_eq number first) [
          | inl same ↦ inr same
          | inr other ↦ elim (cases_lt number 32) [
            | inl below ↦ inl ((bit_is others number).1 (bit_at_clear_other w32 bits first lowest.0 number below other ∙ (bit_is bits number).0 has))
            | inr high ↦ absurd (omega (arith, (bit_is bits number).0 has, bit_at_above bits 32 number small high))
          ]
        ],
        λ there. (bit_is bits number).1 (elim there [
          | inl other ↦ ((and_has bits (bit_not w32 (1 * 2 ^ first % 4294967296)) number).0 ((bit_is others number).0 other)).0
          | inr same ↦ ap (λ n. bit_at bits n) same ∙ lowest.1
        ]),
      );
      fewer = omega (arith, lower, differ);
    }

-- ---- a word that is shifted

-- bits move down
pub bit_of_right_shift : (bits by number : ℕ) → bit_at (bits / 2 ^ by) number ≡ bit_at bits (by + number)
bit_of_right_shift bits by number = ap (λ x. x % 2) (shr-shr bits by number)

-- the lower bits of a number are those of what is left of it in a word
low_bit : (bits number : ℕ) → number < 64 → bit_at (bits % 2 ^ 64) number ≡ bit_at bits number
low_bit bits number low =
    sym (bit_at_cat_low (bits / 2 ^ 64) 64 (bits % 2 ^ 64) number low) ∙ ap (λ n. bit_at n number) (split bits 64)

-- bits move up
pub bit_of_left_shift : (bits by number : ℕ) → by + number < 64 → bit_at (bits * 2 ^ by % 2 ^ 64) (by + number) ≡ bit_at bits number
bit_of_left_shift bits by number low =
    let same : bits * 2 ^ by ≡ bits * 2 ^ by + 0 = omega arith in
    let back : by + number - by ≡ number = omega arith in
    low_bit (bits * 2 ^ by) (by + number) low ∙ ap (λ n. bit_at n (by + number)) same
    ∙ bit_at_cat_high bits by 0 (by + number) (pow_pos by) (omega arith) ∙ ap (bit_at bits) back

-- and there are none below them
none_moved_in : (bits by number : ℕ) → by ≤ 64 → number < by → bit_at (bits * 2 ^ by % 2 ^ 64) number ≡ 0
none_moved_in bits by number short low =
    let same : bits * 2 ^ by ≡ bits * 2 ^ by + 0 = omega arith in
    low_bit (bits * 2 ^ by) number (omega (arith, short, low)) ∙ ap (λ n. bit_at n number) same
    ∙ bit_at_cat_low bits by 0 number low ∙ bit_at-zero number

-- from the leading zeros on no bit is set
pub none_leading : (bits number : ℕ) → bits < 2 ^ 64 → 64 ≤ number + leading_zeros w64 bits → bit_at bits number ≡ 0
none_leading bits number small high =
    let (length, count, below, above) = leading_length 64 bits small in
    bit_at_above bits length number below (omega (arith, count, high))

-- a word that was shifted up has fewer leading zeros than it has room above the shift, where a bit is left
pub leading_below : (bits by : ℕ) → by ≤ 64 → bits * 2 ^ by % 2 ^ 64 ≢ 0 → leading_zeros w64 (bits * 2 ^ by % 2 ^ 64) + by < 64
leading_below bits by short some =
    let moved = bits * 2 ^ by % 2 ^ 64 in
    let small : moved < 2 ^ 64 = omega arith in
    elim (cases_lt (leading_zeros w64 moved + by) 64) [
      | inl below ↦ below
      | inr high ↦ absurd (some (same_from_bits moved 0 (λ number. elim (cases_lt number by) [
        | inl low ↦ none_moved_in bits by number short low ∙ sym (bit_at-zero number)
        | inr above ↦ none_leading moved number small (omega (arith, high, above)) ∙ sym (bit_at-zero number)
      ])))
    ]
