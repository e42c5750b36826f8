-- What IAST prints is UTF-8 whose characters are composed already: by a test of the fifty spellings that the prover computes, and by
-- induction on the word.
use Rattle.std.proofs.Common.{◌≡◌, ℕ, zero, suc, ◌-◌, ◌<◌, ◌≤◌, Bool, true, false, cond, ◌&&◌, List, [], ◌∷◌, ◌++◌, map, length, get_or, Some, Ok, Err, IsUtf8, eqb, encode_utf8_all, arith, ap, ◌∙◌, sym, refl}
use Rattle.std.specs.Char.{encode_utf8}
use Rattle.std.specs.List.{AllByRecursion, list_all}
use Rattle.std.specs.Str.{chars, all_scalars}
use Rattle.std.specs.Str.Lossy.{utf8_valid_len}
use Rattle.std.proofs.lemmas.Bool.{eqb-true, and_parts}
use Rattle.std.proofs.lemmas.Str.{chars-encodes, is_utf8-from_IsUtf8, encodes-append}
use Rattle.unicode_normalization.specs.Order.{is_starter, is_ordered}
use Rattle.unicode_normalization.specs.Forms.{Nfc, nfc, nfd}
use Rattle.unicode_normalization.proofs.Computing.{unicode_normalization}
use Rattle.unicode_normalization.proofs.FormsLemmas.{passes, normalize-passes, nfc_from_nfd}
use Rattle.unicode_normalization.proofs.OrderLemmas.{is_ordered-nil, is_ordered-starter}
use Rattle.text_definitions.specs.Letters.{IsLetter}
use Rattle.text_definitions.specs.Spellings.{NotUtf8}
use Rattle.text_definitions.specs.Longest.{spelling_of_letter, has_length, spellings_of_word}
use Rattle.text_definitions.proofs.Tables.{passes_below, passes_at}
use Rattle.text_definitions.proofs.PrintedSpellings.{printed_is_read}
use Rattle.more_scheme_definitions.specs.Iast.{iast_spellings, iast_table, iast_front, composed, word_of_composed, word_of_iast, iast_of_word}
use Rattle.more_scheme_definitions.proofs.IastTable.{separates_iast}

-- a code point that has a UTF-8 form and that composition keeps, whatever stands beside it
abbrev pub is_kept : ℕ → Bool
is_kept point = all_scalars (point ∷ []) && passes Nfc point && is_starter point

-- these are the characters of the bytes, and composition keeps each
pub record Spells (points bytes : List ℕ) : Type 0 where
  pub kept : list_all is_kept points ≡ true
  pub bytes_are : encode_utf8_all points ≡ bytes

pub join_all : (xs ys : List ℕ) → list_all is_kept xs ≡ true → list_all is_kept ys ≡ true → list_all is_kept (xs ++ ys) ≡ true
join_all [] ys h k = k
join_all (x ∷ xs) ys h k = let p = and_parts _ _ h in ap (λ b. b && list_all is_kept (xs ++ ys)) p.0 ∙ join_all xs ys p.1 k

join : (xs ys left right : List ℕ) → Spells xs left → Spells ys right → Spells (xs ++ ys) (left ++ right)
join xs ys left right s t = record {
  kept = join_all xs ys s.kept t.kept;
  bytes_are = encodes-append xs ys ∙ ap (λ l. l ++ encode_utf8_all ys) s.bytes_are ∙ ap (λ r. left ++ r) t.bytes_are;
}

all_kept : passes_below 50 (λ k. list_all is_kept (get_or iast_spellings k [])) ≡ true
unfolding iast_spellings unicode_normalization
all_kept = refl

separator_kept : list_all is_kept (95 ∷ []) ≡ true
unfolding unicode_normalization
separator_kept = refl

at_map : (entries : List (List ℕ)) (k : ℕ) → k < length entries → encode_utf8_all (get_or entries k []) ≡ get_or (map encode_utf8_all entries) k []
at_map [] k h = absurd (omega arith)
at_map (entry ∷ entries) zero h = refl
at_map (entry ∷ entries) (suc k) h = at_map entries k (omega arith)

fifty : length iast_spellings ≡ 50
unfolding iast_spellings
fifty = refl

letter_spells : (n : ℕ) → IsLetter n → Spells (get_or iast_spellings (n - 1) []) (spelling_of_letter iast_table n)
unfolding iast_table
letter_spells n l = record {
  kept = passes_at 50 (λ k. list_all is_kept (get_or iast_spellings k [])) all_kept (n - 1) (omega arith);
  bytes_are = at_map iast_spellings (n - 1) (omega (arith, fifty));
}

abbrev pub gap_points : Bool → List ℕ
gap_points gap = cond gap [] (95 ∷ [])

gap_spells : (gap : Bool) → Spells (gap_points gap) (cond gap [] (95 ∷ []))
unfolding encode_utf8
gap_spells true = record { kept = refl; bytes_are = refl }
gap_spells false = record { kept = separator_kept; bytes_are = refl }

-- the characters of what is printed
abbrev pub points_after : ℕ → List ℕ → List ℕ
points_after previous [] = []
points_after previous (n ∷ word) =
    gap_points (has_length (iast_front (spelling_of_letter iast_table previous ++ spelling_of_letter iast_table n)) (length (spelling_of_letter iast_table previous)))
    ++ get_or iast_spellings (n - 1) [] ++ points_after n word

after_spells : (previous : ℕ) (word : List ℕ) → AllByRecursion IsLetter word → Spells (points_after previous word) (spellings_of_word iast_front (spelling_of_letter iast_table) (Some previous) word)
after_spells previous [] ls = record { kept = refl; bytes_are = refl }
after_spells previous (n ∷ word) ls =
    let gap = has_length (iast_front (spelling_of_letter iast_table previous ++ spelling_of_letter iast_table n)) (length (spelling_of_letter iast_table previous)) in
    join _ (points_after n word) _ _ (join (gap_points gap) _ (cond gap [] (95 ∷ [])) _ (gap_spells gap) (letter_spells n ls.0)) (after_spells n word ls.1)

abbrev pub points_of_word : List ℕ → List ℕ
points_of_word [] = []
points_of_word (n ∷ word) = get_or iast_spellings (n - 1) [] ++ points_after n word

pub word_spells : (word : List ℕ) → AllByRecursion IsLetter word → Spells (points_of_word word) (iast_of_word word)
unfolding iast_of_word
word_spells [] ls = record { kept = refl; bytes_are = refl }
word_spells (n ∷ word) ls = join _ (points_after n word) _ _ (letter_spells n ls.0) (after_spells n word ls.1)

-- so it is UTF-8, its characters are these, and composition keeps them
parts : (a b c : Bool) → a && b && c ≡ true → (a ≡ true) × (b ≡ true) × (c ≡ true)
parts true true c h = (refl, refl, h)
parts true false c h = absurd (cc)
parts false b c h = absurd (cc)

first_of : (a b : Bool) → a && b ≡ true → a ≡ true
first_of true b h = refl
first_of false b h = absurd (cc)

pub kept_scalars : (points : List ℕ) → list_all is_kept points ≡ true → all_scalars points ≡ true
kept_scalars [] h = refl
kept_scalars (x ∷ xs) h =
    let p = and_parts _ _ h in
    let one = first_of _ _ (parts _ _ _ p.0).0 in
    ap (λ b. b && all_scalars xs) one ∙ kept_scalars xs p.1

all_pass : (points : List ℕ) → list_all is_kept points ≡ true → list_all (passes Nfc) points ≡ true
all_pass [] h = refl
all_pass (x ∷ xs) h = let p = and_parts _ _ h in ap (λ b. b && list_all (passes Nfc) xs) (parts _ _ _ p.0).1 ∙ all_pass xs p.1

starts : (class : ℕ) → eqb class 0 ≡ true → class ≤ 0
starts class h = omega (arith, eqb-true class 0 h)

ordered : (points : List ℕ) → list_all is_kept points ≡ true → is_ordered points ≡ true
ordered [] h = is_ordered-nil
ordered (x ∷ xs) h =
    let p = and_parts _ _ h in
    is_ordered-starter x xs (starts _ (parts (all_scalars (x ∷ [])) (passes Nfc x) (is_starter x) p.0).2) (ordered xs p.1)

kept_by_composition : (points : List ℕ) → list_all is_kept points ≡ true → nfc points ≡ points
kept_by_composition points h = normalize-passes Nfc points (all_pass points h) (ordered points h)

pub spells_composed : (points bytes : List ℕ) → Spells points bytes → composed bytes ≡ bytes
unfolding composed
spells_composed points bytes s =
    let chars_are : chars bytes ≡ points = ap chars (sym s.bytes_are) ∙ chars-encodes points (kept_scalars points s.kept) in
    ap encode_utf8_all (ap nfc chars_are ∙ kept_by_composition points s.kept) ∙ s.bytes_are

-- what IAST prints is UTF-8
pub printed_is_utf8 : (word : List ℕ) → AllByRecursion IsLetter word → IsUtf8 (iast_of_word word)
printed_is_utf8 word ls = let s = word_spells word ls in (points_of_word word, (kept_scalars (points_of_word word) s.kept, s.bytes_are))

-- composition leaves it as it is
pub printed_is_composed : (word : List ℕ) → AllByRecursion IsLetter word → composed (iast_of_word word) ≡ iast_of_word word
printed_is_composed word ls = spells_composed (points_of_word word) (iast_of_word word) (word_spells word ls)

printed_composed_is_read : (word : List ℕ) → AllByRecursion IsLetter word → word_of_composed (iast_of_word word) ≡ Ok word
unfolding word_of_composed iast_of_word
printed_composed_is_read word ls = printed_is_read iast_front (spelling_of_letter iast_table) separates_iast word ls

-- and it is read as the same word
pub printed_iast_is_read : (word : List ℕ) → AllByRecursion IsLetter word → word_of_iast (iast_of_word word) ≡ Ok word
unfolding word_of_iast
printed_iast_is_read word ls =
    let text = iast_of_word word in
    ap (λ b. cond b (word_of_composed (composed text)) (Err (NotUtf8 (utf8_valid_len text)))) (is_utf8-from_IsUtf8 text (printed_is_utf8 word ls))
    ∙ ap word_of_composed (printed_is_composed word ls)
    ∙ printed_composed_is_read word ls

-- texts with the same canonical decomposition are read alike
pub equivalent_texts_are_read_alike : (left right : List ℕ) → IsUtf8 left → IsUtf8 right → nfd (chars left) ≡ nfd (chars right) → word_of_iast left ≡ word_of_iast right
unfolding word_of_iast composed
equivalent_texts_are_read_alike left right l r same =
    let reading = λ (points : List ℕ). word_of_composed (encode_utf8_all points) in
    ap (λ b. cond b (reading (nfc (chars left))) (Err (NotUtf8 (utf8_valid_len left)))) (is_utf8-from_IsUtf8 left l)
    ∙ ap reading (nfc_from_nfd (chars left) (chars right) same)
    ∙ sym (ap (λ b. cond b (reading (nfc (chars right))) (Err (NotUtf8 (utf8_valid_len right)))) (is_utf8-from_IsUtf8 right r))
