-- The keys of an answer are read as the digits of a number, the first key the highest digit, and 0 where no key is left. A
-- smaller list of keys is a smaller number, so strictly rising answers are strictly rising numbers below a power of the base:
-- no more of them than that power.
use Rattle.std.proofs.Common.{◌≡◌, ℕ, zero, suc, ◌+◌, ◌*◌, ◌-◌, ◌^◌, ◌<◌, ◌≤◌, ◌⊎◌, inl, inr, List, [], ◌∷◌, length, map, All, sym, ap, arith}
use Rattle.std.specs.List.{Contains}
use Rattle.std.specs.Cmp.{ranked, nat_cmp_is}
use Rattle.std.specs.Ordering.{nat_cmp, ordering_then}
use Rattle.std.specs.List.Sorted.{IsStrictlySortedBy}
use Rattle.std.specs.declared.cmp.Ordering.{Ordering}
use Rattle.std.specs.declared.cmp.Ordering.TheVariants.{Less, Equal}
use Rattle.std.proofs.Math.Nat.{one-le-pow, pow-succ', mul-le-mul_right}
use Rattle.std.proofs.lemmas.List.{length-map}
use Rattle.std.proofs.lemmas.List.Elements.{All-from_recursion, recursion_from_All, All-head, All-tail, All-map, All-weaker, All-contains}
use Rattle.std.proofs.lemmas.Map.Keys.{sorted_head, sorted_tail}
use Rattle.std.proofs.lemmas.Map.Views.{length-le_from_below}
use Rattle.text_definitions.specs.Lines.{Line}
use Rattle.lexicon_definitions.specs.Lexicons.{Lexicon, IsLexicon}
use Rattle.segmentation_definitions.specs.Derivations.{Step, Derives}
use Rattle.segmentation_definitions.specs.Items.{Choice, placed}
use Rattle.segmentation_definitions.specs.Answers.{IsAnswer}
use Rattle.segmentation_definitions.specs.Listings.{Key, key_of, keys_of, compare_keys, compare_key_lists, compare_answers}
use Rattle.segmentation_definitions.specs.StepBounds.{key_count, answer_bound}
use Rattle.segmentation_definitions.proofs.Coverings.{in_place}
use Rattle.segmentation_definitions.proofs.KeyLists.{compare_keys_exact}
use Rattle.segmentation_definitions.proofs.RisingRanks.{IsKeyWithin, keys_within, length_placed, steps_bounded}
use Rattle.list_laws.proofs.Sorted.{All-from_Contains}
use Rattle.list_laws.proofs.Orderings.{less_then_cases}

-- the same of two numbers that are compared first
less_from_then : (x y : ℕ) (b : Ordering) → ordering_then (nat_cmp x y) b ≡ Less → (x < y) ⊎ ((x ≡ y) × (b ≡ Less))
less_from_then x y b e = elim (less_then_cases (nat_cmp x y) b e) [
  | inl l ↦ inl (ranked x y Less (sym l))
  | inr (q, l) ↦ inr (ranked x y Equal (sym q), l)
]

-- a number whose first digit is smaller is smaller, and one whose first digit is the same where what is after is smaller
smaller_digits : (base a b c d : ℕ) → c < base → (a < b) ⊎ ((a ≡ b) × (c < d)) → a * base + c < b * base + d
smaller_digits base a b c d within (inl less) =
    let front : suc a * base ≤ b * base = mul-le-mul_right base less in
    omega arith
smaller_digits base a b c d within (inr (same, less)) = let front = ap (λ n. n * base) same in omega arith

-- where a smaller element is a smaller number, strictly sorted elements are strictly sorted numbers
sorted_numbers : {X : Type 0} (R : X → X → Ordering) (P : X → Type 0) (f : X → ℕ) → ((x y : X) → P x → P y → R x y ≡ Less → f x < f y)
    → (xs : List X) → All P xs → IsStrictlySortedBy R xs → IsStrictlySortedBy nat_cmp (map f xs)
unfolding IsStrictlySortedBy
sorted_numbers R P f rises [] all sorted = tt
sorted_numbers {X = X} R P f rises (x ∷ xs) all sorted =
    let later = All-tail P x xs all in
    let above = λ (y : X) (m : Contains xs y). sym (nat_cmp_is (f x) (f y) Less
    (rises x y (All-head P x xs all) (All-contains P xs y later m)
    (All-contains (λ z. R x z ≡ Less) xs y (All-from_recursion (λ z. R x z ≡ Less) xs (sorted_head R x xs sorted)) m))) in (
      recursion_from_All (λ n. nat_cmp (f x) n ≡ Less) (map f xs)
          (All-map (λ n. nat_cmp (f x) n ≡ Less) f xs (All-from_Contains (λ y. nat_cmp (f x) (f y) ≡ Less) xs above)),
      sorted_numbers R P f rises xs later (sorted_tail R x xs sorted),
    )

module _ (lexicon : Lexicon) (letters : ℕ) where
  -- the key is one for a step over these letters
  abbrev IsWithin : Key → Type 0
  IsWithin key = IsKeyWithin lexicon letters key

  -- the digits are 1 and more for the keys, and 0 where no key is left
  abbrev base : ℕ
  base = key_count lexicon letters + 1

  -- what decides before the rule does: the phase, then how many letters are not taken, since more taken is smaller
  abbrev upper : Key → ℕ
  upper key = key.phase * (letters + 1) + (letters - key.taken)

  -- the key as a digit
  abbrev digit : Key → ℕ
  digit key = upper key * (length lexicon.rules.rules + 1) + key.rule + 1

  -- a digit is below the base
  digit_within : (key : Key) → IsWithin key → digit key < base
  digit_within key (phase, taken, rule) =
      let front = smaller_digits (letters + 1) key.phase (length lexicon.phases) (letters - key.taken) 0 (omega arith) (inl phase) in
      let whole = smaller_digits (length lexicon.rules.rules + 1) (upper key) (length lexicon.phases * (letters + 1)) key.rule 0
      (omega arith) (inl (omega arith)) in
      omega arith

  -- a smaller key has a smaller digit
  digit_rises : (x y : Key) → IsWithin x → IsWithin y → compare_keys x y ≡ Less → digit x < digit y
  digit_rises x y p q less =
      let smaller_upper = smaller_digits (letters + 1) x.phase y.phase (letters - x.taken) (letters - y.taken) (omega arith) in
      let parts : (upper x < upper y) ⊎ ((upper x ≡ upper y) × (x.rule < y.rule)) = elim (less_from_then x.phase y.phase _ less) [
        | inl phase ↦ inl (smaller_upper (inl phase))
        | inr (phase, following) ↦ elim (less_from_then y.taken x.taken _ following) [
          | inl taken ↦ inl (smaller_upper (inr (phase, omega arith)))
          | inr (taken, rule) ↦ inr (let front = ap (λ n. n * (letters + 1)) phase in omega arith, ranked x.rule y.rule Less (sym rule))
        ]
      ] in
      let whole = smaller_digits (length lexicon.rules.rules + 1) (upper x) (upper y) x.rule y.rule (omega arith) parts in
      omega arith

  -- the number with this many places whose digits are the keys, the first the highest
  abbrev number : ℕ → List Key → ℕ
  number zero keys = 0
  number (suc places) [] = 0
  number (suc places) (key ∷ keys) = digit key * base ^ places + number places keys

  -- a number is below the power of the base
  number_within : (places : ℕ) (keys : List Key) → All IsWithin keys → number places keys < base ^ places
  number_within zero keys within = one-le-pow zero base (omega arith)
  number_within (suc places) [] within = one-le-pow (suc places) base (omega arith)
  number_within (suc places) (key ∷ keys) within =
      let later = number_within places keys (All-tail IsWithin key keys within) in
      let first = digit_within key (All-head IsWithin key keys within) in
      let whole = smaller_digits (base ^ places) (digit key) base (number places keys) 0 later (inl first) in
      omega (arith, pow-succ' base places)

  -- a smaller list of keys is a smaller number
  number_rises : (places : ℕ) (xs ys : List Key) → length xs ≤ places → length ys ≤ places → All IsWithin xs → All IsWithin ys
      → compare_key_lists xs ys ≡ Less → number places xs < number places ys
  number_rises places [] [] short short' p q less = cc
  number_rises places (x ∷ xs) [] short short' p q less = cc
  number_rises zero [] (y ∷ ys) short short' p q less = absurd (omega arith)
  number_rises zero (x ∷ xs) (y ∷ ys) short short' p q less = absurd (omega arith)
  number_rises (suc places) [] (y ∷ ys) short short' p q less =
      let whole = smaller_digits (base ^ places) 0 (digit y) 0 (number places ys) (one-le-pow places base (omega arith)) (inl (omega arith)) in
      omega arith
  number_rises (suc places) (x ∷ xs) (y ∷ ys) short short' p q less =
      let here = All-tail IsWithin x xs p in
      let there = All-tail IsWithin y ys q in
      smaller_digits (base ^ places) (digit x) (digit y) (number places xs) (number places ys) (number_within places xs here)
      (elim (less_then_cases (compare_keys x y) _ less) [
        | inl first ↦ inl (digit_rises x y (All-head IsWithin x xs p) (All-head IsWithin y ys q) first)
        | inr (same, later) ↦ inr (ap digit (compare_keys_exact x y same), number_rises places xs ys (omega arith) (omega arith) here there later)
      ])

-- the steps have at most twice as many keys as there are letters, and each key is one for a step over these letters
abbrev AreKeysWithin : Lexicon → ℕ → List Step → Type 0
AreKeysWithin lexicon letters steps =
    (length (keys_of lexicon.rules steps) ≤ 2 * letters) × All (IsKeyWithin lexicon letters) (keys_of lexicon.rules steps)

-- so it is with steps that derive a word
derived_keys_within : (lexicon : Lexicon) (word : List ℕ) (steps : List Step) → IsLexicon lexicon → Derives lexicon steps word
    → AreKeysWithin lexicon (length word) steps
derived_keys_within lexicon word steps is derives = (
  omega (arith, length-map (placed lexicon.rules steps) key_of, length_placed lexicon.rules 0 [] steps, steps_bounded lexicon word steps is derives),
  keys_within (in_place lexicon word steps is derives),
)

-- strictly rising answers are not more than the bound
pub answers_bounded : (lexicon : Lexicon) (line : Line) (choices : List Choice) (answers : List (List Step)) → IsLexicon lexicon
    → IsStrictlySortedBy (compare_answers lexicon.rules) answers → All (IsAnswer lexicon line choices) answers
    → length answers ≤ answer_bound lexicon (length line.letters)
answers_bounded lexicon line choices answers is rising all =
    let letters = length line.letters in
    let number_of = λ (steps : List Step). number lexicon letters (2 * letters) (keys_of lexicon.rules steps) in
    let within : All (AreKeysWithin lexicon letters) answers =
    All-weaker (IsAnswer lexicon line choices) (AreKeysWithin lexicon letters)
    (λ steps answer. derived_keys_within lexicon line.letters steps is answer.derives) answers all in
    let numbers : IsStrictlySortedBy nat_cmp (map number_of answers) =
    sorted_numbers (compare_answers lexicon.rules) (AreKeysWithin lexicon letters) number_of
    (λ x y p q less. number_rises lexicon letters (2 * letters) _ _ p.0 q.0 p.1 q.1 less) answers within rising in
    let below : All (λ n. n < answer_bound lexicon letters) (map number_of answers) =
    All-map (λ n. n < answer_bound lexicon letters) number_of answers
    (All-weaker (AreKeysWithin lexicon letters) (λ steps. number_of steps < answer_bound lexicon letters)
    (λ steps p. number_within lexicon letters (2 * letters) (keys_of lexicon.rules steps) p.1) answers within) in
    let bounded = length-le_from_below (answer_bound lexicon letters) (map number_of answers) numbers below in
    omega (arith, length-map answers number_of)
