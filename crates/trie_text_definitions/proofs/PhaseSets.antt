-- A set of phases that a field tells is written again as this field: its bits are just the numbers of the phases named, which rise, so
-- the names at its bits are those of the field; and not all bits are set, since not all phases are named.
use Rattle.std.proofs.Common.{◌≡◌, ◌≢◌, inl, inr, ℕ, suc, ◌+◌, ◌-◌, ◌*◌, ◌^◌, ◌<◌, ◌≤◌, Bool, true, false, cond, ◌&&◌, nat_lt, eqb, bit_and, max, Some, List, [], ◌∷◌, length, map, get_or, refl, sym, ◌∙◌, ap, subst, arith}
use Rattle.std.specs.Prelude.{option_and_then, codes}
use Rattle.std.specs.Int.{bit_at}
use Rattle.std.specs.List.{AllByRecursion, join_with_byte, position, slice_split}
use Rattle.std.specs.List.Sorted.{IsStrictlySortedBy}
use Rattle.std.specs.Str.{bytes_eq}
use Rattle.std.specs.Ordering.{nat_cmp}
use Rattle.std.proofs.Math.Pow.{ones_lt}
use Rattle.std.proofs.lemmas.Bool.{and_parts, ltb-true, eq-eqb, ne_eqb, not_from_true, not_from_false, cases_lt}
use Rattle.std.proofs.lemmas.Cmp.{nat_cmp_total}
use Rattle.std.proofs.lemmas.Nat.{pow_pos, pow_below, le_or_l, or_lt}
use Rattle.std.proofs.lemmas.Nat.Bits.{bit_at-zero, bit_at_or, bit_at-pow_same, bit_at-pow_other, bit_at_ones, and_pow}
use Rattle.std.proofs.lemmas.List.{length-map}
use Rattle.std.proofs.lemmas.List.Splits.{join_with_byte-slice_split, length-slice_split}
use Rattle.std.proofs.lemmas.Map.Keys.{sorted_head, sorted_tail}
use Rattle.std.proofs.lemmas.Option.{cond_some}
use Rattle.std.specs.Cmp.{ranked}
use Rattle.std.specs.declared.cmp.Ordering.TheVariants.{Less}
use Rattle.list_laws.proofs.Texts.{bytes_same}
use Rattle.lexicon_definitions.specs.Rules.{all_phases}
use Rattle.lexicon_definitions.proofs.WrittenRules.{some_phases}
use Rattle.lexicon_text_definitions.proofs.LineSteps.{name_at}
use Rattle.trie_text_definitions.specs.LimitedRules.{rises, has_phase, names_from, phases_text, set_of, set_within, phases_named, set_told}
use Rattle.trie_text_definitions.proofs.NodeTexts.{then_some, all_told, same_map}
use Rattle.trie_text_definitions.proofs.NodeSteps.{sorted_from_rises}

-- ---- bits

pub has_by_bit : (phases k : ℕ) → bit_at phases k ≡ 1 → has_phase phases k ≡ true
has_by_bit phases k h =
    let some = pow_pos k in
    let is : bit_and phases (2 ^ k) ≡ 1 * 2 ^ k = and_pow phases k ∙ ap (λ b. b * 2 ^ k) h in
    not_from_false (eqb (bit_and phases (2 ^ k)) 0) (ne_eqb (bit_and phases (2 ^ k)) 0 (λ e. omega (arith, is, some, e)))

pub has_not_by_bit : (phases k : ℕ) → bit_at phases k ≡ 0 → has_phase phases k ≡ false
has_not_by_bit phases k h =
    let is : bit_and phases (2 ^ k) ≡ 0 * 2 ^ k = and_pow phases k ∙ ap (λ b. b * 2 ^ k) h in
    not_from_true (eqb (bit_and phases (2 ^ k)) 0) (eq-eqb (bit_and phases (2 ^ k)) 0 (omega (arith, is)))

-- the bits of a set with one phase more
bit_more : (phase : ℕ) (phases : List ℕ) (k : ℕ) → bit_at (set_of (phase ∷ phases)) k ≡ max (bit_at (2 ^ phase) k) (bit_at (set_of phases) k)
bit_more phase phases k = bit_at_or (2 ^ phase) (set_of phases) k

bit_at_most : (n k : ℕ) → bit_at n k ≤ 1
bit_at_most n k = omega arith

pub bit_here : (phase : ℕ) (phases : List ℕ) → bit_at (set_of (phase ∷ phases)) phase ≡ 1
bit_here phase phases =
    let same = bit_at-pow_same phase in
    let most = bit_at_most (set_of phases) phase in
    let is = bit_more phase phases phase in
    omega (arith, same, most, is)

pub bit_later : (phase : ℕ) (phases : List ℕ) (k : ℕ) → k ≢ phase → bit_at (set_of (phase ∷ phases)) k ≡ bit_at (set_of phases) k
bit_later phase phases k n =
    let none = bit_at-pow_other phase k n in
    let is = bit_more phase phases k in
    omega (arith, none, is)

-- phases that are all greater leave a bit unset
pub bit_none : (phases : List ℕ) (k : ℕ) → AllByRecursion (λ phase. k < phase) phases → bit_at (set_of phases) k ≡ 0
bit_none [] k h = bit_at-zero k
bit_none (phase ∷ phases) k h = bit_later phase phases k (λ e. let l = h.0 in omega (arith, l, e)) ∙ bit_none phases k h.1

-- ---- the names at the bits

abbrev AreWithin : ℕ → ℕ → List ℕ → Type 0
AreWithin from end phases = AllByRecursion (λ phase. (from ≤ phase) × (phase < end)) phases

pub above_first : (first : ℕ) (phases : List ℕ) → IsStrictlySortedBy nat_cmp (first ∷ phases) → AllByRecursion (λ phase. first < phase) phases
above_first first phases s = by phases (sorted_head nat_cmp first phases s)
  where
    by : (phases : List ℕ) → AllByRecursion (λ phase. nat_cmp first phase ≡ Less) phases → AllByRecursion (λ phase. first < phase) phases
    by [] h = tt
    by (phase ∷ phases) h = (ranked first phase Less (sym h.0), by phases h.1)

within_more : (from end : ℕ) (phases : List ℕ) → AreWithin from end phases → AllByRecursion (λ phase. from < phase) phases → AreWithin (from + 1) end phases
within_more from end [] h k = tt
within_more from end (phase ∷ phases) h k = let l = k.0 in ((omega (arith, l), h.0.1), within_more from end phases h.1 k.1)

-- names at places counted from a number, with one name more in front
shifted : (from end : ℕ) (name : List ℕ) (names : List (List ℕ)) (phases : List ℕ) → AreWithin (from + 1) end phases
    → map (λ phase. get_or names (phase - (from + 1)) []) phases ≡ map (λ phase. get_or (name ∷ names) (phase - from) []) phases
shifted from end name names [] h = refl
shifted from end name names (phase ∷ phases) h =
    let low = h.0.0 in
    let one : phase - from ≡ suc (phase - (from + 1)) = omega (arith, low) in
    λ i. ap (λ k. get_or (name ∷ names) k []) (sym one) i ∷ shifted from end name names phases h.1 i

pub names_at : (phases from : ℕ) (names : List (List ℕ)) (numbers : List ℕ) → IsStrictlySortedBy nat_cmp numbers → AreWithin from (from + length names) numbers
    → ((k : ℕ) → from ≤ k → bit_at phases k ≡ bit_at (set_of numbers) k)
    → names_from phases from names ≡ map (λ number. get_or names (number - from) []) numbers
names_at phases from [] [] s w b = refl
names_at phases from [] (number ∷ numbers) s w b = let low = w.0.0 in let high = w.0.1 in absurd (omega (arith, low, high))
names_at phases from (name ∷ names) [] s w b =
    let unset = has_not_by_bit phases from (b from (omega arith) ∙ bit_at-zero from) in
    ap (λ test. cond test (name ∷ names_from phases (from + 1) names) (names_from phases (from + 1) names)) unset
    ∙ names_at phases (from + 1) names [] s tt (λ k l. b k (omega (arith, l)))
names_at phases from (name ∷ names) (number ∷ numbers) s w b =
    elim (cases_lt from number) [
      | inl later ↦
          let greater = above_first number numbers s in
          let all : AllByRecursion (λ phase. from < phase) (number ∷ numbers) = (later, greater_still from number numbers later greater) in
          let unset = has_not_by_bit phases from (b from (omega arith) ∙ bit_none (number ∷ numbers) from all) in
          let inside = ends_at (number ∷ numbers) (within_more from (from + length (name ∷ names)) (number ∷ numbers) w all) in
          ap (λ test. cond test (name ∷ names_from phases (from + 1) names) (names_from phases (from + 1) names)) unset
          ∙ names_at phases (from + 1) names (number ∷ numbers) s inside (λ k l. b k (omega (arith, l)))
          ∙ shifted from (from + 1 + length names) name names (number ∷ numbers) inside
      | inr here ↦
          let low = w.0.0 in
          let same : number ≡ from = omega (arith, here, low) in
          let greater = above_first number numbers s in
          let all : AllByRecursion (λ phase. from < phase) numbers = subst (λ n. AllByRecursion (λ phase. n < phase) numbers) same greater in
          let set = has_by_bit phases from (b from (omega arith) ∙ subst (λ n. bit_at (set_of (number ∷ numbers)) n ≡ 1) same (bit_here number numbers)) in
          let inside = ends_at numbers (within_more from (from + length (name ∷ names)) numbers w.1 all) in
          let first : name ≡ get_or (name ∷ names) (number - from) [] = let none : number - from ≡ 0 = omega (arith, same) in ap (λ k. get_or (name ∷ names) k []) (sym none) in
          let rest = names_at phases (from + 1) names numbers (sorted_tail nat_cmp number numbers s) inside
          (λ k l. b k (omega (arith, l)) ∙ bit_later number numbers k (λ e. omega (arith, l, e, same))) ∙ shifted from (from + 1 + length names) name names numbers inside in
          ap (λ test. cond test (name ∷ names_from phases (from + 1) names) (names_from phases (from + 1) names)) set ∙ (λ i. first i ∷ rest i)
    ]
  where
    greater_still : (from number : ℕ) (numbers : List ℕ) → from < number → AllByRecursion (λ phase. number < phase) numbers → AllByRecursion (λ phase. from < phase) numbers
    greater_still from number [] l h = tt
    greater_still from number (phase ∷ numbers) l h = let k = h.0 in (omega (arith, l, k), greater_still from number numbers l h.1)

    ends_at : (numbers : List ℕ) → AreWithin (from + 1) (from + length (name ∷ names)) numbers → AreWithin (from + 1) (from + 1 + length names) numbers
    ends_at numbers h = let same : from + length (name ∷ names) ≡ from + 1 + length names = omega arith in subst (λ end. AreWithin (from + 1) end numbers) same h

-- where each bit is set, all names are there
pub all_names : (phases from : ℕ) (names : List (List ℕ)) → ((k : ℕ) → k < from + length names → bit_at phases k ≡ 1) → names_from phases from names ≡ names
all_names phases from [] b = refl
all_names phases from (name ∷ names) b =
    ap (λ test. cond test (name ∷ names_from phases (from + 1) names) (names_from phases (from + 1) names)) (has_by_bit phases from (b from (omega arith)))
    ∙ ap (◌∷◌ name) (all_names phases (from + 1) names (λ k l. b k (omega (arith, l))))

-- ---- what a field tells

-- a set of phases over so many
pub record IsSetWithin (count set : ℕ) : Type 0 where
  pub some : 0 < set
  pub within : set < 2 ^ count

pub set_below : (count : ℕ) (numbers : List ℕ) → AllByRecursion (λ number. number < count) numbers → set_of numbers < 2 ^ count
set_below count [] h = pow_pos count
set_below count (number ∷ numbers) h = or_lt count (2 ^ number) (set_of numbers) (pow_below number count h.0) (set_below count numbers h.1)

set_some : (numbers : List ℕ) → numbers ≢ [] → 0 < set_of numbers
set_some [] n = absurd (n refl)
set_some (number ∷ numbers) n = let some = pow_pos number in let up = le_or_l (2 ^ number) (set_of numbers) in omega (arith, some, up)

module _ (names : List (List ℕ)) where
  -- the numbers of the phases that are named
  numbers_told : (fields : List (List ℕ)) (numbers : List ℕ) → phases_named names fields ≡ Some numbers
      → (fields ≡ map (λ number. get_or names number []) numbers) × AllByRecursion (λ number. number < length names) numbers
  numbers_told fields numbers h =
      all_told (λ field. position (bytes_eq field) names) (λ number. get_or names number []) (λ number. number < length names)
      (λ field number e. let at = name_at names field number e in (at.1, at.0)) fields numbers h

  from_zero : (numbers : List ℕ) → AllByRecursion (λ number. number < length names) numbers → AreWithin 0 (0 + length names) numbers
  from_zero [] h = tt
  from_zero (number ∷ numbers) h = let l = h.0 in ((omega arith, omega (arith, l)), from_zero numbers h.1)

  pub written : (numbers : List ℕ) → IsStrictlySortedBy nat_cmp numbers → AllByRecursion (λ number. number < length names) numbers
      → names_from (set_of numbers) 0 names ≡ map (λ number. get_or names number []) numbers
  written numbers s h =
      names_at (set_of numbers) 0 names numbers s (from_zero numbers h) (λ k l. refl)
      ∙ same_map (λ number. get_or names (number - 0) []) (λ number. get_or names number [])
      (λ number. let whole : number - 0 ≡ number = omega arith in ap (λ k. get_or names k []) whole) numbers

  not_all : (numbers : List ℕ) → IsStrictlySortedBy nat_cmp numbers → AllByRecursion (λ number. number < length names) numbers → length numbers < length names
      → set_of numbers ≢ all_phases (length names)
  not_all numbers s h few e =
      let ones = λ (k : ℕ) (l : k < 0 + length names). ap (λ n. bit_at n k) e ∙ bit_at_ones (length names) k (omega (arith, l)) in
      let whole = ap length (all_names (set_of numbers) 0 names ones) in
      let part = ap length (written numbers s h) in
      let count = length-map numbers (λ number. get_or names number []) in
      omega (arith, whole, part, count, few)

  some_numbers : (field : List ℕ) (numbers : List ℕ) → slice_split (λ byte. eqb byte 44) field ≡ map (λ number. get_or names number []) numbers → numbers ≢ []
  some_numbers field [] e n = let long = ap length e in let some = length-slice_split (λ byte. eqb byte 44) field in omega (arith, long, some)
  some_numbers field (number ∷ numbers) e n = cc

  listed_told : (field : List ℕ) (numbers : List ℕ) (set : ℕ) → phases_named names (slice_split (λ byte. eqb byte 44) field) ≡ Some numbers → set_within (length names) numbers ≡ Some set
      → (field ≡ phases_text names set) × IsSetWithin (length names) set
  listed_told field numbers set h k =
      let told = numbers_told (slice_split (λ byte. eqb byte 44) field) numbers h in
      let found = cond_some (rises nat_cmp numbers && nat_lt (length numbers) (length names)) (set_of numbers) set k in
      let both = and_parts (rises nat_cmp numbers) (nat_lt (length numbers) (length names)) found.0 in
      let rising = sorted_from_rises nat_cmp_total numbers both.0 in
      let few = ltb-true (length numbers) (length names) both.1 in
      let others = not_all numbers rising told.1 few in
      let is : phases_text names (set_of numbers) ≡ join_with_byte 44 (names_from (set_of numbers) 0 names) =
      ap (λ test. cond test (codes "*") (join_with_byte 44 (names_from (set_of numbers) 0 names))) (ne_eqb (set_of numbers) (all_phases (length names)) others) in
      let joined : field ≡ join_with_byte 44 (names_from (set_of numbers) 0 names) =
      sym (join_with_byte-slice_split 44 field) ∙ ap (join_with_byte 44) (told.0 ∙ sym (written numbers rising told.1)) in
      subst (λ (n : ℕ). (field ≡ phases_text names n) × IsSetWithin (length names) n) found.1 (
        joined ∙ sym is,
        record { some = set_some numbers (some_numbers field numbers told.0); within = set_below (length names) numbers told.1 },
      )

  by_star : (field : List ℕ) (set : ℕ) (test : Bool) → bytes_eq field (codes "*") ≡ test → 0 < length names
      → cond test (Some (all_phases (length names))) (option_and_then (set_within (length names)) (phases_named names (slice_split (λ byte. eqb byte 44) field))) ≡ Some set
      → (field ≡ phases_text names set) × IsSetWithin (length names) set
  by_star field set true e some h =
      let same : all_phases (length names) ≡ set = cc in
      let is : phases_text names (all_phases (length names)) ≡ codes "*" =
      ap (λ test. cond test (codes "*") (join_with_byte 44 (names_from (all_phases (length names)) 0 names))) (eq-eqb (all_phases (length names)) (all_phases (length names)) refl) in
      subst (λ (n : ℕ). (field ≡ phases_text names n) × IsSetWithin (length names) n) same (
        bytes_same field (codes "*") e ∙ sym is,
        record { some = some_phases (length names) some; within = ones_lt (length names) },
      )
  by_star field set false e some h =
      let (numbers, f, k) = then_some (set_within (length names)) (phases_named names (slice_split (λ byte. eqb byte 44) field)) set h in
      listed_told field numbers set f k

  -- the set that a field tells is written as this field
  pub set_field_told : (field : List ℕ) (set : ℕ) → 0 < length names → set_told names field ≡ Some set → (field ≡ phases_text names set) × IsSetWithin (length names) set
  set_field_told field set some h = by_star field set (bytes_eq field (codes "*")) refl some h
