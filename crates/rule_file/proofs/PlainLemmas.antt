-- Pairs put in one after another, letter by letter and entry by entry.
use Rattle.std.proofs.Common.{◌≡◌, ◌≢◌, ℕ, ◌+◌, ◌<◌, Bool, true, false, option_and_then, Option, Some, None, Result, Ok, Err, List, [], ◌∷◌, length, map, drop, get_or, refl, sym, ◌∙◌, ap, subst, arith}
use Rattle.std.specs.List.Sorted.{IsStrictlySortedBy}
use Rattle.std.proofs.lemmas.List.{drop_more}
use Rattle.toml.specs.Data.{Members}
use Rattle.text_definitions.specs.Spellings.{Reading}
use Rattle.text_definitions.specs.Slp1.{word_of_slp1}
use Rattle.lexicon_definitions.specs.Lexicons.{compare_pairs}
use Rattle.list_laws.specs.RisingSets.{with_element, with_elements}
use Rattle.list_laws.proofs.RisingSetLaws.{sorted-with_element, sorted-with_elements, with_elements-append}
use Rattle.rule_file_definitions.specs.RuleFileFaults.{Fault}
use Rattle.rule_file_definitions.specs.SoundClasses.{letters_named}
use Rattle.list_laws.specs.Cuts.{cut}
use Rattle.rule_file_definitions.specs.PlainEntries.{name_between, side_as, side_letters, pairs_between, pairs_with, pairs_of_sides, pairs_of, with_pairs, add_plain}
use Rattle.rule_file.specs.Held.{word_of, AreAdded}
use Rattle.rule_file.proofs.Turns.{left_first}
use Rattle.lexicon_definitions.proofs.PlainPairs.{pairs_total, pairs_exact}
use Rattle.list_laws.proofs.Sorted.{sorted_nil}

-- ---- one pair, and the pairs of one letter

pub no_pair_rises : (pairs : List (ℕ × ℕ)) → pairs ≡ [] → IsStrictlySortedBy compare_pairs pairs
no_pair_rises pairs e = subst (IsStrictlySortedBy compare_pairs) (sym e) (sorted_nil compare_pairs)

pub rising_one : (pairs next : List (ℕ × ℕ)) (pair : ℕ × ℕ) → IsStrictlySortedBy compare_pairs pairs → next ≡ with_element compare_pairs pairs pair → IsStrictlySortedBy compare_pairs next
rising_one pairs next pair s e = subst (IsStrictlySortedBy compare_pairs) (sym e) (sorted-with_element pairs_total pairs_exact pairs pair s)

pub rising_more : (pairs next more : List (ℕ × ℕ)) → IsStrictlySortedBy compare_pairs pairs → next ≡ with_elements compare_pairs pairs more → IsStrictlySortedBy compare_pairs next
rising_more pairs next more s e = subst (IsStrictlySortedBy compare_pairs) (sym e) (sorted-with_elements pairs_total pairs_exact pairs more s)

pub pair_turn : (x : ℕ) (right : List ℕ) (i y : ℕ) (pairs next whole : List (ℕ × ℕ)) → i < length right → y ≡ get_or right i y → next ≡ with_element compare_pairs pairs (x, y)
    → with_elements compare_pairs pairs (map (λ z. (x, z)) (drop i right)) ≡ whole → with_elements compare_pairs next (map (λ z. (x, z)) (drop (i + 1) right)) ≡ whole
pair_turn x right i y pairs next whole l is e h =
    ap (λ set. with_elements compare_pairs set (map (λ z. (x, z)) (drop (i + 1) right))) e
    ∙ ap (with_elements compare_pairs pairs) (sym (left_first (λ z. (x, z)) right i y l is)) ∙ h

pub row_turn : (left right : List ℕ) (i x : ℕ) (pairs next whole : List (ℕ × ℕ)) → i < length left → x ≡ get_or left i x
    → next ≡ with_elements compare_pairs pairs (map (λ z. (x, z)) right)
    → with_elements compare_pairs pairs (pairs_between (drop i left) right) ≡ whole → with_elements compare_pairs next (pairs_between (drop (i + 1) left) right) ≡ whole
row_turn left right i x pairs next whole l is e h =
    ap (λ set. with_elements compare_pairs set (pairs_between (drop (i + 1) left) right)) e
    ∙ sym (with_elements-append compare_pairs pairs (map (λ z. (x, z)) right) (pairs_between (drop (i + 1) left) right))
    ∙ ap (λ rest. with_elements compare_pairs pairs (pairs_between rest right)) (sym (drop_more left i x l ∙ ap (λ y. y ∷ drop (i + 1) left) (sym is))) ∙ h

-- ---- a side

unread_by : (classes : Members) (side : List ℕ) (reading : Reading) → None ≡ word_of reading
    → option_and_then (letters_named classes) (name_between side) ≡ side_as classes side reading
unread_by classes side (Ok word) e = absurd (cc)
unread_by classes side (Err fault) e = refl

pub unread_side : (classes : Members) (side : List ℕ) → None ≡ word_of (word_of_slp1 side)
    → option_and_then (letters_named classes) (name_between side) ≡ side_letters classes side
unfolding side_letters
unread_side classes side e = unread_by classes side (word_of_slp1 side) e

not_one_by : (classes : Members) (side : List ℕ) (reading : Reading) (word : List ℕ) → Some word ≡ word_of reading → length word ≢ 1
    → option_and_then (letters_named classes) (name_between side) ≡ side_as classes side reading
not_one_by classes side (Ok []) word e n = refl
not_one_by classes side (Ok (letter ∷ [])) word e n = let same : word ≡ letter ∷ [] = cc in absurd (n (ap length same))
not_one_by classes side (Ok (letter ∷ next ∷ rest)) word e n = refl
not_one_by classes side (Err fault) word e n = absurd (cc)

pub not_one_letter : (classes : Members) (side word : List ℕ) → Some word ≡ word_of (word_of_slp1 side) → length word ≢ 1
    → option_and_then (letters_named classes) (name_between side) ≡ side_letters classes side
unfolding side_letters
not_one_letter classes side word e n = not_one_by classes side (word_of_slp1 side) word e n

one_by : (classes : Members) (side : List ℕ) (reading : Reading) (word : List ℕ) → Some word ≡ word_of reading → length word ≡ 1
    → Some word ≡ side_as classes side reading
one_by classes side (Ok []) word e n = let same : word ≡ [] = cc in absurd (omega (arith, n, ap length same))
one_by classes side (Ok (letter ∷ [])) word e n = e
one_by classes side (Ok (letter ∷ next ∷ rest)) word e n = let same : word ≡ letter ∷ next ∷ rest = cc in absurd (omega (arith, n, ap length same))
one_by classes side (Err fault) word e n = absurd (cc)

pub one_letter : (classes : Members) (side word : List ℕ) → Some word ≡ word_of (word_of_slp1 side) → length word ≡ 1 → Some word ≡ side_letters classes side
unfolding side_letters
one_letter classes side word e n = one_by classes side (word_of_slp1 side) word e n

-- ---- an entry

module _ (classes : Members) (entry : List ℕ) where
  pub no_sides : cut 32 entry ≡ None → pairs_of classes entry ≡ None
  unfolding pairs_of
  no_sides e = ap (pairs_of_sides classes) e

  by_sides : (left right : List ℕ) → cut 32 entry ≡ Some (left, right) → pairs_of classes entry ≡ pairs_with (side_letters classes left) (side_letters classes right)
  unfolding pairs_of
  by_sides left right e = ap (pairs_of_sides classes) e

  without_right : (left : Option (List ℕ)) → pairs_with left None ≡ None
  without_right None = refl
  without_right (Some left) = refl

  pub no_left : (left right : List ℕ) → cut 32 entry ≡ Some (left, right) → None ≡ side_letters classes left → pairs_of classes entry ≡ None
  no_left left right e f = by_sides left right e ∙ ap (λ l. pairs_with l (side_letters classes right)) (sym f)

  pub no_right : (left right : List ℕ) → cut 32 entry ≡ Some (left, right) → None ≡ side_letters classes right → pairs_of classes entry ≡ None
  no_right left right e f = by_sides left right e ∙ ap (λ r. pairs_with (side_letters classes left) r) (sym f) ∙ without_right (side_letters classes left)

  pub both_sides : (left right x y : List ℕ) → cut 32 entry ≡ Some (left, right) → Some x ≡ side_letters classes left → Some y ≡ side_letters classes right
      → pairs_of classes entry ≡ Some (pairs_between x y)
  both_sides left right x y e f g = by_sides left right e ∙ (λ i. pairs_with (sym f i) (sym g i))

pub not_added : (made : Option (List (ℕ × ℕ))) (old new : List (ℕ × ℕ)) → made ≡ None → AreAdded made old false new
not_added made old new e = subst (λ m. AreAdded m old false new) (sym e) refl

pub are_added : (made : Option (List (ℕ × ℕ))) (more old new : List (ℕ × ℕ)) → made ≡ Some more → new ≡ with_elements compare_pairs old more → AreAdded made old true new
are_added made more old new e h = subst (λ m. AreAdded m old true new) (sym e) (refl, h)

-- ---- the entries

on_by : (classes : Members) (pairs new : List (ℕ × ℕ)) (number : ℕ) (entries : List (List ℕ)) (made : Option (List (ℕ × ℕ))) (is_entry : Bool) → is_entry ≡ true → AreAdded made pairs is_entry new
    → with_pairs pairs number made (λ more. add_plain classes more (number + 1) entries) ≡ add_plain classes new (number + 1) entries
on_by classes pairs new number entries None is_entry t h = absurd (cc)
on_by classes pairs new number entries (Some more) is_entry t h = ap (λ set. add_plain classes set (number + 1) entries) (sym h.1)

rising_by : (made : Option (List (ℕ × ℕ))) (pairs new : List (ℕ × ℕ)) (is_entry : Bool) → is_entry ≡ true → AreAdded made pairs is_entry new → IsStrictlySortedBy compare_pairs pairs
    → IsStrictlySortedBy compare_pairs new
rising_by None pairs new is_entry t h s = absurd (cc)
rising_by (Some more) pairs new is_entry t h s = rising_more pairs new more s h.1

pub entry_rises : (classes : Members) (entry : List ℕ) (pairs new : List (ℕ × ℕ)) (is_entry : Bool) → is_entry ≡ true → AreAdded (pairs_of classes entry) pairs is_entry new
    → IsStrictlySortedBy compare_pairs pairs → IsStrictlySortedBy compare_pairs new
entry_rises classes entry pairs new is_entry t h s = rising_by (pairs_of classes entry) pairs new is_entry t h s

pub entry_turn : (classes : Members) (entry : List ℕ) (pairs new : List (ℕ × ℕ)) (is_entry : Bool) (number : ℕ) (left rest : List (List ℕ)) (whole : Result (List (ℕ × ℕ)) Fault) → is_entry ≡ true
    → AreAdded (pairs_of classes entry) pairs is_entry new → left ≡ entry ∷ rest → add_plain classes pairs number left ≡ whole → add_plain classes new (number + 1) rest ≡ whole
entry_turn classes entry pairs new is_entry number left rest whole t h e before =
    sym (on_by classes pairs new number rest (pairs_of classes entry) is_entry t h) ∙ ap (add_plain classes pairs number) (sym e) ∙ before
