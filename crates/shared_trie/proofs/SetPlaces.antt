-- The bits of a number, from the lowest: which places a set of letters has, that they rise, how many there are, and which one
-- stands after those below it.
use Rattle.std.proofs.Common.{◌≡◌, ◌≢◌, ◌⊎◌, inl, inr, ℕ, zero, suc, ◌+◌, ◌-◌, ◌*◌, ◌%◌, ◌^◌, ◌<◌, ◌≤◌, ◌/◌, ◌↔◌, List, [], ◌∷◌, Some, length, cond, nat_eq, slice_get, bit_and, bit_or, max, refl, sym, ◌∙◌, ap, subst, arith}
use Rattle.std.specs.Prelude.{Contains, count_ones}
use Rattle.std.specs.Int.{bit_at}
use Rattle.std.specs.Ordering.{nat_cmp}
use Rattle.std.specs.declared.cmp.Ordering.TheVariants.{Less}
use Rattle.std.specs.List.Sorted.{IsStrictlySortedBy}
use Rattle.std.proofs.Math.Nat.{mod-eq_of_lt, pow-suc}
use Rattle.std.proofs.lemmas.Bool.{cases_eq, eq-eqb, eqb-true, false_from_ne_true}
use Rattle.std.proofs.lemmas.List.Elements.{recursion_from_All}
use Rattle.std.proofs.lemmas.Nat.{pow_below, pow_pos, and_le_l, ones_le_self}
use Rattle.std.proofs.lemmas.Nat.Bits.{bit_at-lt, bit_at-suc, bit_at_lowest, bit_at_and, bit_at_or, bit_at_ones, bit_at_ones_above, bit_at-pow_same, bit_at-pow_other, and_pow}
use Rattle.std.specs.Int.Count.{ones_step}
use Rattle.list_laws.proofs.Orderings.{nat_cmp-Less}
use Rattle.list_laws.proofs.Sorted.{Contains-first, Contains-later, Contains-cons_cases, not_Contains-nil, All-from_Contains, sorted_nil}
use Rattle.shared_trie.specs.LetterSets.{set_places}

-- a set without bits to look at is empty
none_left : (from bits : ℕ) → set_places zero from bits ≡ []
unfolding set_places
none_left from bits = refl

-- the lowest bit is 1
place_first : (count from bits : ℕ) → bits % 2 ≡ 1 → set_places (suc count) from bits ≡ from ∷ set_places count (from + 1) (bits / 2)
unfolding set_places
place_first count from bits one =
    ap (λ b. cond b (from ∷ set_places count (from + 1) (bits / 2)) (set_places count (from + 1) (bits / 2))) (eq-eqb (bits % 2) 1 one)

-- the lowest bit is 0
place_skipped : (count from bits : ℕ) → bits % 2 ≢ 1 → set_places (suc count) from bits ≡ set_places count (from + 1) (bits / 2)
unfolding set_places
place_skipped count from bits other =
    ap (λ b. cond b (from ∷ set_places count (from + 1) (bits / 2)) (set_places count (from + 1) (bits / 2)))
    (false_from_ne_true (nat_eq (bits % 2) 1) (λ e. other (eqb-true (bits % 2) 1 e)))

-- a bit of half of the number is the next one of the number
half_bit : (from bits place : ℕ) → from + 1 ≤ place → bit_at (bits / 2) (place - (from + 1)) ≡ 1 → bit_at bits (place - from) ≡ 1
half_bit from bits place high bit =
    let next : place - from ≡ suc (place - (from + 1)) = omega (arith, high) in
    ap (bit_at bits) next ∙ bit_at-suc bits (place - (from + 1)) ∙ bit

-- each place has its bit
pub bit_of_place : (count from bits place : ℕ) → Contains (set_places count from bits) place
    → (from ≤ place) × (place < from + count) × (bit_at bits (place - from) ≡ 1)
bit_of_place zero from bits place has = absurd (not_Contains-nil place (subst (λ xs. Contains xs place) (none_left from bits) has))
bit_of_place (suc count) from bits place has =
    let rest = set_places count (from + 1) (bits / 2) in
    let later : Contains rest place → (from ≤ place) × (place < from + suc count) × (bit_at bits (place - from) ≡ 1) = λ m.
    let (low, high, bit) = bit_of_place count (from + 1) (bits / 2) place m in
    (omega (arith, low), omega (arith, high), half_bit from bits place low bit) in
    elim (cases_eq (bits % 2) 1) [
      | inl one ↦ elim (Contains-cons_cases from rest place (subst (λ xs. Contains xs place) (place_first count from bits one) has)) [
        | inl same ↦
            let here : place - from ≡ 0 = omega (arith, same) in
            (omega (arith, same), omega (arith, same), ap (bit_at bits) here ∙ bit_at_lowest bits ∙ one)
        | inr m ↦ later m
      ]
      | inr other ↦ later (subst (λ xs. Contains xs place) (place_skipped count from bits other) has)
    ]

-- each bit has its place
pub place_of_bit : (count from bits i : ℕ) → i < count → bit_at bits i ≡ 1 → Contains (set_places count from bits) (from + i)
place_of_bit zero from bits i low bit = absurd (omega (arith, low))
place_of_bit (suc count) from bits zero low bit =
    let one : bits % 2 ≡ 1 = sym (bit_at_lowest bits) ∙ bit in
    let here : from ≡ from + 0 = omega arith in
    subst (λ xs. Contains xs (from + 0)) (sym (place_first count from bits one))
    (subst (Contains (from ∷ set_places count (from + 1) (bits / 2))) here (Contains-first from (set_places count (from + 1) (bits / 2))))
place_of_bit (suc count) from bits (suc i) low bit =
    let rest = set_places count (from + 1) (bits / 2) in
    let there : from + 1 + i ≡ from + suc i = omega arith in
    let later : Contains rest (from + suc i) =
    subst (Contains rest) there (place_of_bit count (from + 1) (bits / 2) i (omega (arith, low)) (sym (bit_at-suc bits i) ∙ bit)) in
    elim (cases_eq (bits % 2) 1) [
      | inl one ↦ subst (λ xs. Contains xs (from + suc i)) (sym (place_first count from bits one)) (Contains-later from rest (from + suc i) later)
      | inr other ↦ subst (λ xs. Contains xs (from + suc i)) (sym (place_skipped count from bits other)) later
    ]

-- one below a rising list
rising_cons : (x : ℕ) (xs : List ℕ) → ((y : ℕ) → Contains xs y → x < y) → IsStrictlySortedBy nat_cmp xs → IsStrictlySortedBy nat_cmp (x ∷ xs)
unfolding IsStrictlySortedBy
rising_cons x xs below rising =
    (recursion_from_All (λ y. nat_cmp x y ≡ Less) xs (All-from_Contains (λ y. nat_cmp x y ≡ Less) xs (λ y m. nat_cmp-Less x y (below y m))), rising)

-- the places rise
pub places_rise : (count from bits : ℕ) → IsStrictlySortedBy nat_cmp (set_places count from bits)
places_rise zero from bits = subst (IsStrictlySortedBy nat_cmp) (sym (none_left from bits)) (sorted_nil nat_cmp)
places_rise (suc count) from bits =
    let rest = set_places count (from + 1) (bits / 2) in
    let rising = places_rise count (from + 1) (bits / 2) in
    elim (cases_eq (bits % 2) 1) [
      | inl one ↦ subst (IsStrictlySortedBy nat_cmp) (sym (place_first count from bits one))
          (rising_cons from rest (λ y m. let (low, _, _) = bit_of_place count (from + 1) (bits / 2) y m in omega (arith, low)) rising)
      | inr other ↦ subst (IsStrictlySortedBy nat_cmp) (sym (place_skipped count from bits other)) rising
    ]

-- a number without bits has no places
pub no_places : (count from bits : ℕ) → ((k : ℕ) → bit_at bits k ≡ 0) → set_places count from bits ≡ []
no_places zero from bits none = none_left from bits
no_places (suc count) from bits none =
    let low = none 0 in
    let lowest = bit_at_lowest bits in
    place_skipped count from bits (λ one. absurd (omega (arith, one, low, lowest)))
    ∙ no_places count (from + 1) (bits / 2) (λ k. sym (bit_at-suc bits k) ∙ none (suc k))

-- there are as many places as bits
pub places_counted : (count from bits : ℕ) → bits < 2 ^ count → length (set_places count from bits) ≡ count_ones bits
places_counted zero from bits small =
    let none : bits ≡ 0 = omega (arith, small) in
    let some = ones_le_self bits in
    ap length (none_left from bits) ∙ omega (arith, none, some)
places_counted (suc count) from bits small =
    let power = pow-suc 2 count in
    let half : bits / 2 < 2 ^ count = omega (arith, small, power) in
    let rest = places_counted count (from + 1) (bits / 2) half in
    let step = ones_step bits in
    elim (cases_eq (bits % 2) 1) [
      | inl one ↦
          let longer = ap length (place_first count from bits one) in
          omega (arith, longer, rest, step, one)
      | inr other ↦
          let same = ap length (place_skipped count from bits other) in
          omega (arith, same, rest, step, other)
    ]

-- there are no more places than bits that are looked at
pub places_few : (count from bits : ℕ) → length (set_places count from bits) ≤ count
places_few zero from bits = let none = ap length (none_left from bits) in omega (arith, none)
places_few (suc count) from bits =
    let rest = places_few count (from + 1) (bits / 2) in
    elim (cases_eq (bits % 2) 1) [
      | inl one ↦ let longer = ap length (place_first count from bits one) in omega (arith, longer, rest)
      | inr other ↦ let same = ap length (place_skipped count from bits other) in omega (arith, same, rest)
    ]

-- after as many places as there are bits below a bit stands its place
pub place_after : (count from bits below i : ℕ) → i < count → bit_at bits i ≡ 1
    → ((k : ℕ) → k < i → bit_at below k ≡ bit_at bits k) → ((k : ℕ) → i ≤ k → bit_at below k ≡ 0)
    → slice_get (set_places count from bits) (length (set_places count from below)) ≡ Some (from + i)
place_after zero from bits below i low bit same none = absurd (omega (arith, low))
place_after (suc count) from bits below zero low bit same none =
    let one : bits % 2 ≡ 1 = sym (bit_at_lowest bits) ∙ bit in
    let here : from ≡ from + 0 = omega arith in
    ap (λ xs. slice_get xs (length (set_places (suc count) from below))) (place_first count from bits one)
    ∙ ap (λ xs. slice_get (from ∷ set_places count (from + 1) (bits / 2)) (length xs)) (no_places (suc count) from below (λ k. none k (omega arith)))
    ∙ ap Some here
place_after (suc count) from bits below (suc i) low bit same none =
    let rest = set_places count (from + 1) (bits / 2) in
    let rest_below = set_places count (from + 1) (below / 2) in
    let there : from + 1 + i ≡ from + suc i = omega arith in
    let next : slice_get rest (length rest_below) ≡ Some (from + suc i) =
    place_after count (from + 1) (bits / 2) (below / 2) i (omega (arith, low)) (sym (bit_at-suc bits i) ∙ bit)
    (λ k l. sym (bit_at-suc below k) ∙ same (suc k) (omega (arith, l)) ∙ bit_at-suc bits k)
    (λ k h. sym (bit_at-suc below k) ∙ none (suc k) (omega (arith, h))) ∙ ap Some there in
    let lowest : below % 2 ≡ bits % 2 = sym (bit_at_lowest below) ∙ same 0 (omega arith) ∙ bit_at_lowest bits in
    elim (cases_eq (bits % 2) 1) [
      | inl one ↦
          ap (λ xs. slice_get xs (length (set_places (suc count) from below))) (place_first count from bits one)
          ∙ ap (λ xs. slice_get (from ∷ rest) (length xs)) (place_first count from below (lowest ∙ one))
          ∙ next
      | inr other ↦
          ap (λ xs. slice_get xs (length (set_places (suc count) from below))) (place_skipped count from bits other)
          ∙ ap (λ xs. slice_get rest (length xs)) (place_skipped count from below (λ e. other (sym lowest ∙ e)))
          ∙ next
    ]

-- each place of the bits of a number from its lowest one
bit_of : (bits place : ℕ) → Contains (set_places 64 0 bits) place → (place < 64) × (bit_at bits place ≡ 1)
bit_of bits place has =
    let (_, high, bit) = bit_of_place 64 0 bits place has in
    let same : place ≡ place - 0 = omega arith in
    (omega (arith, high), ap (bit_at bits) same ∙ bit)

-- each bit of a number from its lowest one has its place
place_at : (bits i : ℕ) → i < 64 → bit_at bits i ≡ 1 → Contains (set_places 64 0 bits) i
place_at bits i low bit =
    let same : 0 + i ≡ i = omega arith in
    subst (Contains (set_places 64 0 bits)) same (place_of_bit 64 0 bits i low bit)

module _ (bits code : ℕ) (low : code < 64) where
  shifted : 1 * 2 ^ code % 18446744073709551616 ≡ 2 ^ code
  shifted =
      let small : 1 * 2 ^ code < 18446744073709551616 = omega (arith, pow_below code 64 low) in
      mod-eq_of_lt small ∙ omega arith

  -- a letter whose bit is 0 is not in the set
  pub letter_absent : bit_and bits (1 * 2 ^ code % 18446744073709551616) ≡ 0 → Contains (set_places 64 0 bits) code → ⊥
  letter_absent none has =
      let product : bit_at bits code * 2 ^ code ≡ 0 = sym (and_pow bits code) ∙ sym (ap (bit_and bits) shifted) ∙ none in
      let positive : 0 < 2 ^ code = pow_pos code in
      let one = (bit_of bits code has).1 in
      let same = ap (λ n. n * 2 ^ code) one in
      omega (arith, product, positive, same)

  -- a letter whose bit is 1 stands after the letters of the bits below it
  pub letter_found : bits < 18446744073709551616 → bit_and bits (1 * 2 ^ code % 18446744073709551616) ≢ 0
      → slice_get (set_places 64 0 bits) (count_ones (bit_and bits (1 * 2 ^ code % 18446744073709551616 - 1))) ≡ Some code
  letter_found small some =
      let below = bit_and bits (2 ^ code - 1) in
      let bit : bit_at bits code ≡ 1 = elim (cases_eq (bit_at bits code) 1) [
        | inl one ↦ one
        | inr other ↦
            let less = bit_at-lt bits code in
            let zero_bit : bit_at bits code ≡ 0 = omega (arith, less, other) in
            let product : bit_at bits code * 2 ^ code ≡ 0 = let same = ap (λ n. n * 2 ^ code) zero_bit in omega (arith, same) in
            absurd (some (ap (bit_and bits) shifted ∙ and_pow bits code ∙ product))
      ] in
      let same : (k : ℕ) → k < code → bit_at below k ≡ bit_at bits k = λ k l.
      let less = bit_at-lt bits k in
      let ones = bit_at_ones code k l in
      let both = bit_at_and bits (2 ^ code - 1) k in
      omega (arith, less, ones, both) in
      let none : (k : ℕ) → code ≤ k → bit_at below k ≡ 0 = λ k h.
      let ones = bit_at_ones_above code k h in
      let both = bit_at_and bits (2 ^ code - 1) k in
      omega (arith, ones, both) in
      let fits : below < 2 ^ 64 = let lower = and_le_l bits (2 ^ code - 1) in omega (arith, lower, small) in
      let masked : bit_and bits (1 * 2 ^ code % 18446744073709551616 - 1) ≡ below = ap (λ n. bit_and bits (n - 1)) shifted in
      ap (λ n. slice_get (set_places 64 0 bits) (count_ones n)) masked
      ∙ ap (slice_get (set_places 64 0 bits)) (sym (places_counted 64 0 below fits))
      ∙ place_after 64 0 bits below code low bit same none
      ∙ ap Some (omega arith)

  -- the set with a letter besides
  pub letter_added : (other : ℕ) → Contains (set_places 64 0 (bit_or bits (1 * 2 ^ code % 18446744073709551616))) other
      ↔ (Contains (set_places 64 0 bits) other ⊎ (other ≡ code))
  letter_added other =
      let wide = bit_or bits (1 * 2 ^ code % 18446744073709551616) in
      let same : wide ≡ bit_or bits (2 ^ code) = ap (bit_or bits) shifted in
      let either : bit_at wide other ≡ max (bit_at bits other) (bit_at (2 ^ code) other) = ap (λ n. bit_at n other) same ∙ bit_at_or bits (2 ^ code) other in (
        λ has.
            let (high, bit) = bit_of wide other has in
            elim (cases_eq other code) [
              | inl e ↦ inr e
              | inr apart ↦
                  let none = bit_at-pow_other code other apart in
                  inl (place_at bits other high (omega (arith, either, bit, none)))
            ],
        λ there. elim there [
          | inl has ↦
              let (high, bit) = bit_of bits other has in
              let less = bit_at-lt (2 ^ code) other in
              place_at wide other high (omega (arith, either, bit, less))
          | inr e ↦
              let one : bit_at (2 ^ code) other ≡ 1 = ap (bit_at (2 ^ code)) e ∙ bit_at-pow_same code in
              let less = bit_at-lt bits other in
              place_at wide other (omega (arith, e, low)) (omega (arith, either, one, less))
        ],
      )
