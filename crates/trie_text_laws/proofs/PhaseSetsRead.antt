-- A set of phases is read again from its field: the numbers of its phases are gathered one after another, the names at its bits are those of
-- these numbers, and where all phases were named all bits would be set.
use Rattle.std.proofs.Common.{◌≡◌, ◌≢◌, ◌⊎◌, inl, inr, ℕ, zero, suc, ◌+◌, ◌<◌, ◌≤◌, Bool, true, false, ◌&&◌, nat_lt, eqb, Some, List, [], ◌∷◌, length, map, get_or, AllPairs, refl, sym, ◌∙◌, ap, subst, arith, true≢false}
use Rattle.std.specs.Prelude.{All, codes, option_and_then}
use Rattle.std.specs.Int.{bit_at}
use Rattle.std.specs.List.{AllByRecursion, join_with_byte, position, slice_split}
use Rattle.std.specs.List.Sorted.{IsStrictlySortedBy}
use Rattle.std.specs.Str.{bytes_eq}
use Rattle.std.specs.Ordering.{nat_cmp}
use Rattle.std.specs.declared.cmp.Ordering.TheVariants.{Less}
use Rattle.std.proofs.Math.Pow.{ones_lt}
use Rattle.std.proofs.lemmas.Bool.{and_from, cases_lt, eqb-true, lt-ltb, eq-eqb}
use Rattle.std.proofs.lemmas.List.Elements.{All-get_or}
use Rattle.std.proofs.lemmas.Nat.Bits.{bit_at_ones, same_from_bits_below}
use Rattle.list_laws.proofs.Booleans.{when_true, when_false}
use Rattle.list_laws.proofs.Marks.{is_free}
use Rattle.list_laws.proofs.Orderings.{nat_cmp-Less}
use Rattle.list_laws.proofs.Sorted.{sorted_nil}
use Rattle.list_laws.proofs.Texts.{bytes_apart}
use Rattle.text_definitions.specs.Slp1.{slp1_of_word}
use Rattle.lexicon_definitions.specs.Lexicons.{IsPhaseName}
use Rattle.lexicon_definitions.specs.Rules.{all_phases}
use Rattle.lexicon_text_definitions.proofs.LineSteps.{place_of_name}
use Rattle.lexicon_text_definitions.proofs.LineTests.{free_name}
use Rattle.lexicon_text_definitions.proofs.RisingLines.{sorted_cons}
use Rattle.trie_text_definitions.specs.LimitedRules.{rises, names_from, phases_text, phases_after_text, set_of, set_within, phases_named, set_told, set_after_told}
use Rattle.trie_text_definitions.proofs.LimitedRuleSteps.{IsAfterSet}
use Rattle.trie_text_definitions.proofs.NodeLinesApart.{listed_free, split_joined}
use Rattle.trie_text_definitions.proofs.PhaseSets.{bit_here, bit_later, bit_none, set_below, written, IsSetWithin}
use Rattle.trie_text_laws.proofs.NodeFieldsRead.{all_back, map_itself}
use Rattle.trie_text_laws.proofs.NodeLinesRead.{rises_from_sorted}

-- ---- the numbers of a set

-- the numbers of the phases in the set, among so many from this number on
record AreBits (set from count : ℕ) (numbers : List ℕ) : Type 0 where
  rising : IsStrictlySortedBy nat_cmp numbers
  within : AllByRecursion (λ number. (from ≤ number) × (number < from + count)) numbers
  bits : (k : ℕ) → from ≤ k → k < from + count → bit_at (set_of numbers) k ≡ bit_at set k
  some_unset : (length numbers < count) ⊎ ((k : ℕ) → from ≤ k → k < from + count → bit_at set k ≡ 1)
  most : length numbers ≤ count

within_less : (from count : ℕ) (numbers : List ℕ) → AllByRecursion (λ number. (from + 1 ≤ number) × (number < from + 1 + count)) numbers
    → AllByRecursion (λ number. (from ≤ number) × (number < from + suc count)) numbers
within_less from count [] h = tt
within_less from count (number ∷ numbers) h = let low = h.0.0 in let high = h.0.1 in ((omega (arith, low), omega (arith, high)), within_less from count numbers h.1)

all_above : (from end : ℕ) (numbers : List ℕ) → AllByRecursion (λ number. (from + 1 ≤ number) × (number < end)) numbers → AllByRecursion (λ number. from < number) numbers
all_above from end [] h = tt
all_above from end (number ∷ numbers) h = let low = h.0.0 in (omega (arith, low), all_above from end numbers h.1)

all_less : (from : ℕ) (numbers : List ℕ) → AllByRecursion (λ number. from < number) numbers → AllByRecursion (λ number. nat_cmp from number ≡ Less) numbers
all_less from [] h = tt
all_less from (number ∷ numbers) h = (nat_cmp-Less from number h.0, all_less from numbers h.1)

with_bit : (set from count : ℕ) (numbers : List ℕ) → AreBits set (from + 1) count numbers → bit_at set from ≡ 1 → AreBits set from (suc count) (from ∷ numbers)
with_bit set from count numbers a h =
    let above = all_above from (from + 1 + count) numbers a.within in
    let most = a.most in
    record {
      rising = sorted_cons nat_cmp from numbers (all_less from numbers above) a.rising;
      within = ((omega arith, omega arith), within_less from count numbers a.within);
      bits = λ k low high. elim (cases_lt from k) [
        | inl later ↦ bit_later from numbers k (λ e. omega (arith, later, e)) ∙ a.bits k (omega (arith, later)) (omega (arith, high))
        | inr here ↦
            let same : from ≡ k = omega (arith, low, here) in
            subst (λ n. bit_at (set_of (from ∷ numbers)) n ≡ bit_at set n) same (bit_here from numbers ∙ sym h)
      ];
      some_unset = elim a.some_unset [
        | inl few ↦ inl (omega (arith, few))
        | inr all ↦ inr (λ k low high. elim (cases_lt from k) [
          | inl later ↦ all k (omega (arith, later)) (omega (arith, high))
          | inr here ↦ let same : from ≡ k = omega (arith, low, here) in subst (λ n. bit_at set n ≡ 1) same h
        ])
      ];
      most = omega (arith, most);
    }

without_bit : (set from count : ℕ) (numbers : List ℕ) → AreBits set (from + 1) count numbers → bit_at set from ≡ 0 → AreBits set from (suc count) numbers
without_bit set from count numbers a h =
    let above = all_above from (from + 1 + count) numbers a.within in
    let most = a.most in
    record {
      rising = a.rising;
      within = within_less from count numbers a.within;
      bits = λ k low high. elim (cases_lt from k) [
        | inl later ↦ a.bits k (omega (arith, later)) (omega (arith, high))
        | inr here ↦
            let same : from ≡ k = omega (arith, low, here) in
            subst (λ n. bit_at (set_of numbers) n ≡ bit_at set n) same (bit_none numbers from above ∙ sym h)
      ];
      some_unset = inl (omega (arith, most));
      most = omega (arith, most);
    }

one_or_none : (n k : ℕ) → (bit_at n k ≡ 1) ⊎ (bit_at n k ≡ 0)
one_or_none n k = elim (cases_lt 0 (bit_at n k)) [
  | inl some ↦ inl (omega (arith, some))
  | inr none ↦ inr (omega (arith, none))
]

bits_there : (set from count : ℕ) → (numbers : List ℕ) × AreBits set from count numbers
bits_there set from zero = (
  [],
  record {
    rising = sorted_nil nat_cmp;
    within = tt;
    bits = λ k low high. absurd (omega (arith, low, high));
    some_unset = inr (λ k low high. absurd (omega (arith, low, high)));
    most = omega arith;
  },
)
bits_there set from (suc count) =
    let (numbers, a) = bits_there set (from + 1) count in
    elim (one_or_none set from) [
      | inl one ↦ (from ∷ numbers, with_bit set from count numbers a one)
      | inr none ↦ (numbers, without_bit set from count numbers a none)
    ]

-- ---- the field of a set

module _ (names : List (List ℕ)) (each : All IsPhaseName names) (apart : AllPairs (λ left right. left ≢ right) names) (set : ℕ) (h : IsSetWithin (length names) set)
    (numbers : List ℕ) (a : AreBits set 0 (length names) numbers) where
  low_numbers : AllByRecursion (λ number. number < length names) numbers
  low_numbers = below numbers a.within
    where
      below : (numbers : List ℕ) → AllByRecursion (λ number. (0 ≤ number) × (number < 0 + length names)) numbers → AllByRecursion (λ number. number < length names) numbers
      below [] w = tt
      below (number ∷ numbers) w = let high = w.0.1 in (omega (arith, high), below numbers w.1)

  same_set : set_of numbers ≡ set
  same_set =
      same_from_bits_below (length names) (set_of numbers) set (set_below (length names) numbers low_numbers) h.within (λ k low. a.bits k (omega arith) (omega (arith, low)))

  some_number : numbers ≢ []
  some_number e = let some = h.some in let none = ap set_of e in let same = same_set in omega (arith, some, none, same)

  few_numbers : set ≢ all_phases (length names) → length numbers < length names
  few_numbers n = elim a.some_unset [
    | inl few ↦ few
    | inr all ↦
        absurd (n (same_from_bits_below (length names) set (all_phases (length names)) h.within (ones_lt (length names))
        (λ k low. all k (omega arith) (omega (arith, low)) ∙ sym (bit_at_ones (length names) k low))))
  ]

  abbrev fields : List (List ℕ)
  fields = map (λ number. get_or names number []) numbers

  fields_are : names_from set 0 names ≡ fields
  fields_are = ap (λ n. names_from n 0 names) (sym same_set) ∙ written names numbers a.rising low_numbers

  named : phases_named names fields ≡ Some numbers
  named =
      all_back (λ field. position (bytes_eq field) names) (λ number. get_or names number []) (λ number. number) (λ number. number < length names)
      (λ number low. place_of_name names number apart low) numbers low_numbers
      ∙ ap Some (map_itself numbers)

  fields_free : (mark : ℕ) → ((name : List ℕ) → IsPhaseName name → is_free mark name ≡ true) → (numbers : List ℕ) → AllByRecursion (λ number. number < length names) numbers
      → AllByRecursion (λ text. is_free mark text ≡ true) (map (λ number. get_or names number []) numbers)
  fields_free mark free [] w = tt
  fields_free mark free (number ∷ numbers) w = (free (get_or names number []) (All-get_or IsPhaseName names number [] w.0 each), fields_free mark free numbers w.1)

  no_star : (texts : List (List ℕ)) → texts ≢ [] → AllByRecursion (λ text. is_free 42 text ≡ true) texts → bytes_eq (join_with_byte 44 texts) (codes "*") ≡ false
  no_star [] n w = absurd (n refl)
  no_star (text ∷ texts) n w =
      bytes_apart (join_with_byte 44 (text ∷ texts)) (codes "*")
      (λ e. true≢false (sym (listed_free 42 refl refl (text ∷ texts) w) ∙ ap (is_free 42) e))

  split_back : (texts : List (List ℕ)) → texts ≢ [] → AllByRecursion (λ text. is_free 44 text ≡ true) texts → slice_split (λ byte. eqb byte 44) (join_with_byte 44 texts) ≡ texts
  split_back [] n w = absurd (n refl)
  split_back (text ∷ texts) n w = split_joined 44 text texts w

  some_field : fields ≢ []
  some_field e = some_by numbers some_number e
    where
      some_by : (numbers : List ℕ) → numbers ≢ [] → map (λ number. get_or names number []) numbers ≡ [] → ⊥
      some_by [] n e = n refl
      some_by (number ∷ numbers) n e = cc

  by_names : set ≢ all_phases (length names) → set_told names (join_with_byte 44 fields) ≡ Some set
  by_names n =
      let within : set_within (length names) numbers ≡ Some (set_of numbers) =
      when_true (rises nat_cmp numbers && nat_lt (length numbers) (length names)) _ _ _
      (and_from _ _ (rises_from_sorted nat_cmp numbers a.rising) (lt-ltb (length numbers) (length names) (few_numbers n))) refl
      in
      when_false (bytes_eq (join_with_byte 44 fields) (codes "*")) _ _ _ (no_star fields some_field (fields_free 42 (λ name i. free_name 42 name refl i) numbers low_numbers))
      (ap (λ texts. option_and_then (set_within (length names)) (phases_named names texts)) (split_back fields some_field (fields_free 44 (λ name i. free_name 44 name refl i) numbers low_numbers))
      ∙ ap (option_and_then (set_within (length names))) named ∙ within ∙ ap Some same_set)

  by_test : (test : Bool) → eqb set (all_phases (length names)) ≡ test → set_told names (phases_text names set) ≡ Some set
  by_test true e =
      let same = eqb-true set (all_phases (length names)) e in
      let field : phases_text names set ≡ codes "*" = when_true (eqb set (all_phases (length names))) _ _ _ e refl in
      ap (set_told names) field ∙ ap Some (sym same)
  by_test false e =
      let other : set ≢ all_phases (length names) = λ same. true≢false (sym (eq-eqb set (all_phases (length names)) same) ∙ e) in
      let field : phases_text names set ≡ join_with_byte 44 fields = when_false (eqb set (all_phases (length names))) _ _ _ e (ap (join_with_byte 44) fields_are) in
      ap (set_told names) field ∙ by_names other

-- a set is read again from its field
pub set_back : (names : List (List ℕ)) → All IsPhaseName names → AllPairs (λ left right. left ≢ right) names → (set : ℕ) → IsSetWithin (length names) set
    → set_told names (phases_text names set) ≡ Some set
set_back names each apart set h =
    let (numbers, a) = bits_there set 0 (length names) in
    by_test names each apart set h numbers a (eqb set (all_phases (length names))) refl

-- and the set after a rule, by the text of its v
pub after_back : (names : List (List ℕ)) → All IsPhaseName names → AllPairs (λ left right. left ≢ right) names → (v : List ℕ) (set : ℕ) → IsAfterSet (length names) v set
    → set_after_told names (slp1_of_word v) (phases_after_text names v set) ≡ Some set
unfolding slp1_of_word
after_back names each apart [] set h = ap Some (sym (h.none refl))
after_back names each apart (letter ∷ v) set h = set_back names each apart set (h.some (λ e. cc))
