-- A word is printed without marks and read again: byte by byte in the schemes in Latin letters, where the check tests the fifty spellings, and
-- code point by code point in Devanagari.
use Rattle.std.proofs.Common.{◌≡◌, ℕ, ◌+◌, ◌-◌, ◌≤◌, Bool, true, false, not, cond, ◌&&◌, List, [], ◌∷◌, ◌++◌, map, length, get_or, slice_index, Option, Some, None, is_none, Ok, eqb, encode_utf8, encode_utf8_all, arith, ap, ◌∙◌, sym, refl}
use Rattle.std.specs.List.{AllByRecursion, list_all}
use Rattle.std.proofs.lemmas.Bool.{and_parts}
use Rattle.std.proofs.lemmas.Bool.Decides.{nat_tests}
use Rattle.text_definitions.specs.Letters.{IsLetter}
use Rattle.text_definitions.specs.Spellings.{byte_of_letter}
use Rattle.text_definitions.specs.Slp1.{slp1_table, word_of_slp1, slp1_of_word}
use Rattle.text_definitions.specs.Wx.{wx_table, word_of_wx, wx_of_word}
use Rattle.text_definitions.specs.Longest.{spelling_of_letter, has_length, gap_before, spellings_of_word}
use Rattle.text_definitions.specs.Velthuis.{velthuis_table, velthuis_front, word_of_velthuis, velthuis_of_word}
use Rattle.text_definitions.specs.Devanagari.{devanagari_table, devanagari_signs, is_vowel, is_consonant, sign_of_vowel, points_of_letter, points_of_word, word_of_devanagari, devanagari_of_word}
use Rattle.text_definitions.proofs.Tables.{passes_below, passes_at}
use Rattle.text_definitions.proofs.Bytes.{word-bytes}
use Rattle.text_definitions.proofs.PrintedBytes.{read_is_printed}
use Rattle.text_definitions.proofs.PrintedSpellings.{printed_is_read}
use Rattle.text_definitions.proofs.VelthuisTable.{separates_velthuis}
use Rattle.text_definitions.proofs.DevanagariTable.{printed_points_are_read}
use Rattle.text_definitions.proofs.ReadWords.{velthuis_reads_words, devanagari_reads_words}
use Rattle.more_scheme_definitions.specs.HarvardKyoto.{harvard_kyoto_table, harvard_kyoto_front, word_of_harvard_kyoto, harvard_kyoto_of_word}
use Rattle.more_scheme_definitions.specs.Iast.{iast_table, iast_front, word_of_composed, iast_of_word}
use Rattle.more_scheme_definitions.proofs.HarvardKyotoTable.{separates_harvard_kyoto}
use Rattle.more_scheme_definitions.proofs.IastTable.{iast_bytes, separates_iast}
use Rattle.more_scheme_definitions.proofs.ReadSpellings.{harvard_kyoto_reads_words, composed_reads_words}
use Rattle.conversion_definitions.specs.AnySchemes.{AnyScheme, Slp1, Wx, Velthuis, Devanagari, Iast, HarvardKyoto, word_of_run, spelling_in}
use Rattle.conversion_definitions.specs.Marks.{latin_marks, marks_to_latin, first_mark}
use Rattle.conversion_definitions.proofs.MarkBytes.{mark_bytes}
use Rattle.more_schemes.proofs.MarkFronts.{to_latin_first}
use Rattle.conversion_laws.proofs.CutTexts.{HasNoMark}
use Rattle.conversion_laws.proofs.SameSigns.{IsPrinted}

none_from : (found : Option (ℕ × List ℕ)) → is_none found ≡ true → found ≡ None
none_from None h = refl
none_from (Some found) h = absurd (cc (h))

-- ---- Latin letters

-- the byte is no mark of Latin letters
abbrev is_plain : ℕ → Bool
is_plain byte = is_none (first_mark latin_marks (byte ∷ []))

plain_none : (byte : ℕ) (rest : List ℕ) → is_plain byte ≡ true → first_mark latin_marks (byte ∷ rest) ≡ None
unfolding mark_bytes
plain_none byte rest h = none_from (first_mark latin_marks (byte ∷ [])) h

plain_clean : (bytes : List ℕ) → list_all is_plain bytes ≡ true → HasNoMark latin_marks bytes
plain_clean [] h = tt
plain_clean (byte ∷ bytes) h = let p = and_parts _ _ h in (λ rest. plain_none byte (bytes ++ rest) p.0, plain_clean bytes p.1)

join_plain : (xs ys : List ℕ) → list_all is_plain xs ≡ true → list_all is_plain ys ≡ true → list_all is_plain (xs ++ ys) ≡ true
join_plain [] ys h k = k
join_plain (x ∷ xs) ys h k = let p = and_parts _ _ h in ap (λ b. b && list_all is_plain (xs ++ ys)) p.0 ∙ join_plain xs ys p.1 k

plain_bytes : (table : List ℕ) → passes_below 50 (λ k. is_plain (slice_index table k)) ≡ true → (word : List ℕ) → AllByRecursion IsLetter word
    → list_all is_plain (map (byte_of_letter table) word) ≡ true
plain_bytes table all [] ls = refl
plain_bytes table all (n ∷ word) ls =
    ap (λ b. b && list_all is_plain (map (byte_of_letter table) word)) (passes_at 50 (λ k. is_plain (slice_index table k)) all (n - 1) (omega (arith, ls.0.0, ls.0.1)))
    ∙ plain_bytes table all word ls.1

separator_plain : list_all is_plain (95 ∷ []) ≡ true
unfolding mark_bytes
separator_plain = refl

module _ (front : List ℕ → Option (ℕ × ℕ)) (table : List (List ℕ)) (all : passes_below 50 (λ k. list_all is_plain (get_or table k [])) ≡ true) where
  plain_letter : (n : ℕ) → IsLetter n → list_all is_plain (spelling_of_letter table n) ≡ true
  plain_letter n l = passes_at 50 (λ k. list_all is_plain (get_or table k [])) all (n - 1) (omega (arith, l.0, l.1))

  plain_gap : (gap : Bool) → list_all is_plain (cond gap [] (95 ∷ [])) ≡ true
  plain_gap true = refl
  plain_gap false = separator_plain

  plain_before : (previous : Option ℕ) (n : ℕ) → list_all is_plain (gap_before front (spelling_of_letter table) previous n) ≡ true
  plain_before None n = refl
  plain_before (Some m) n = plain_gap (has_length (front (spelling_of_letter table m ++ spelling_of_letter table n)) (length (spelling_of_letter table m)))

  plain_spellings : (word : List ℕ) (previous : Option ℕ) → AllByRecursion IsLetter word → list_all is_plain (spellings_of_word front (spelling_of_letter table) previous word) ≡ true
  plain_spellings [] previous ls = refl
  plain_spellings (n ∷ word) previous ls =
      join_plain _ _ (join_plain _ _ (plain_before previous n) (plain_letter n ls.0)) (plain_spellings word (Some n) ls.1)

slp1_plain : passes_below 50 (λ k. is_plain (slice_index slp1_table k)) ≡ true
unfolding mark_bytes slp1_table
slp1_plain = refl

wx_plain : passes_below 50 (λ k. is_plain (slice_index wx_table k)) ≡ true
unfolding mark_bytes wx_table
wx_plain = refl

velthuis_plain : passes_below 50 (λ k. list_all is_plain (get_or velthuis_table k [])) ≡ true
unfolding mark_bytes velthuis_table
velthuis_plain = refl

harvard_kyoto_plain : passes_below 50 (λ k. list_all is_plain (get_or harvard_kyoto_table k [])) ≡ true
unfolding mark_bytes harvard_kyoto_table
harvard_kyoto_plain = refl

iast_plain : passes_below 50 (λ k. list_all is_plain (get_or iast_table k [])) ≡ true
unfolding mark_bytes iast_bytes
iast_plain = refl

-- ---- Devanagari

-- a byte inside a code point is no mark, nor begins it one
abbrev is_inner : ℕ → Bool
is_inner byte = is_plain byte && not (eqb byte 0xE0)

not_true : (b : Bool) → not b ≡ true → b ≡ true → ⊥
not_true true h e = absurd (cc (h))
not_true false h e = absurd (cc (e))

inner_none : (byte : ℕ) (rest : List ℕ) → is_inner byte ≡ true → first_mark marks_to_latin (byte ∷ rest) ≡ None
inner_none byte rest h =
    let p = and_parts (is_plain byte) (not (eqb byte 0xE0)) h in
    sym (to_latin_first (byte ∷ rest) (λ long first second. not_true (eqb byte 0xE0) p.1 (grind (arith, nat_tests))))
    ∙ plain_none byte rest p.0

-- the bytes of a code point that is no mark
abbrev is_clean : List ℕ → Bool
is_clean (x ∷ y ∷ z ∷ []) = is_none (first_mark marks_to_latin (x ∷ y ∷ z ∷ [])) && is_inner y && is_inner z
is_clean bytes = false

three : (a b c : Bool) → a && b && c ≡ true → (a ≡ true) × (b ≡ true) × (c ≡ true)
three true true c h = (refl, refl, h)
three true false c h = absurd (cc (h))
three false b c h = absurd (cc (h))

first_three : (x y z : ℕ) (rest : List ℕ) → first_mark marks_to_latin (x ∷ y ∷ z ∷ rest) ≡ first_mark marks_to_latin (x ∷ y ∷ z ∷ [])
unfolding mark_bytes
first_three x y z rest = refl

clean_bytes : (bytes more : List ℕ) → is_clean bytes ≡ true → HasNoMark marks_to_latin more → HasNoMark marks_to_latin (bytes ++ more)
clean_bytes [] more h k = absurd (cc (h))
clean_bytes (x ∷ []) more h k = absurd (cc (h))
clean_bytes (x ∷ y ∷ []) more h k = absurd (cc (h))
clean_bytes (x ∷ y ∷ z ∷ w ∷ bytes) more h k = absurd (cc (h))
clean_bytes (x ∷ y ∷ z ∷ []) more h k =
    let p = three (is_none (first_mark marks_to_latin (x ∷ y ∷ z ∷ []))) (is_inner y) (is_inner z) h in
    (λ rest. first_three x y z (more ++ rest) ∙ none_from _ p.0, (λ rest. inner_none y (z ∷ (more ++ rest)) p.1, (λ rest. inner_none z (more ++ rest) p.2, k)))

abbrev is_clean_point : ℕ → Bool
is_clean_point point = is_clean (encode_utf8 point)

clean_points : (points : List ℕ) → list_all is_clean_point points ≡ true → HasNoMark marks_to_latin (encode_utf8_all points)
clean_points [] h = tt
clean_points (point ∷ points) h = let p = and_parts _ _ h in clean_bytes (encode_utf8 point) (encode_utf8_all points) p.0 (clean_points points p.1)

letters_clean : passes_below 50 (λ k. is_clean_point (slice_index devanagari_table k)) ≡ true
unfolding mark_bytes devanagari_table
letters_clean = refl

signs_clean : passes_below 12 (λ k. is_clean_point (slice_index devanagari_signs k)) ≡ true
unfolding mark_bytes devanagari_signs
signs_clean = refl

virama_clean : is_clean_point 0x094D ≡ true
unfolding mark_bytes
virama_clean = refl

join_clean : (xs ys : List ℕ) → list_all is_clean_point xs ≡ true → list_all is_clean_point ys ≡ true → list_all is_clean_point (xs ++ ys) ≡ true
join_clean [] ys h k = k
join_clean (x ∷ xs) ys h k = let p = and_parts _ _ h in ap (λ b. b && list_all is_clean_point (xs ++ ys)) p.0 ∙ join_clean xs ys p.1 k

one_clean : (point : ℕ) → is_clean_point point ≡ true → list_all is_clean_point (point ∷ []) ≡ true
one_clean point h = ap (λ b. b && true) h

letter_clean : (n : ℕ) → IsLetter n → list_all is_clean_point (slice_index devanagari_table (n - 1) ∷ []) ≡ true
letter_clean n l = one_clean _ (passes_at 50 (λ k. is_clean_point (slice_index devanagari_table k)) letters_clean (n - 1) (omega (arith, l.0, l.1)))

vowel_from : (n : ℕ) → is_vowel n ≡ true → n ≤ 13
vowel_from n h = grind (arith, nat_tests)

sign_clean : (n : ℕ) (a : Bool) → eqb n 1 ≡ a → IsLetter n → n ≤ 13 → list_all is_clean_point (cond a [] (slice_index devanagari_signs (n - 2) ∷ [])) ≡ true
sign_clean n true e l vowel = refl
sign_clean n false e l vowel =
    let two : 2 ≤ n = grind (arith, nat_tests) in
    one_clean _ (passes_at 12 (λ k. is_clean_point (slice_index devanagari_signs k)) signs_clean (n - 2) (omega (arith, two, vowel)))

clean_after : (n : ℕ) (vowel : Bool) → is_vowel n ≡ vowel → IsLetter n → list_all is_clean_point (cond vowel (sign_of_vowel n) (0x094D ∷ slice_index devanagari_table (n - 1) ∷ [])) ≡ true
clean_after n true e l = sign_clean n (eqb n 1) refl l (vowel_from n e)
clean_after n false e l = join_clean (0x094D ∷ []) (slice_index devanagari_table (n - 1) ∷ []) (one_clean 0x094D virama_clean) (letter_clean n l)

clean_letter : (bare : Bool) (n : ℕ) → IsLetter n → list_all is_clean_point (points_of_letter bare n) ≡ true
clean_letter false n l = letter_clean n l
clean_letter true n l = clean_after n (is_vowel n) refl l

clean_word : (bare : Bool) (word : List ℕ) → AllByRecursion IsLetter word → list_all is_clean_point (points_of_word bare word) ≡ true
clean_word false [] ls = refl
clean_word true [] ls = one_clean 0x094D virama_clean
clean_word false (n ∷ word) ls = join_clean (points_of_letter false n) (points_of_word (is_consonant n) word) (clean_letter false n ls.0) (clean_word (is_consonant n) word ls.1)
clean_word true (n ∷ word) ls = join_clean (points_of_letter true n) (points_of_word (is_consonant n) word) (clean_letter true n ls.0) (clean_word (is_consonant n) word ls.1)

-- ---- each scheme

-- the empty text is the empty word
empty_from : (scheme : AnyScheme) (word : List ℕ) → word_of_run scheme [] ≡ Ok [] → word_of_run scheme (spelling_in scheme word) ≡ Ok word → spelling_in scheme word ≡ [] → word ≡ []
empty_from scheme word none back e =
    let same : Ok word ≡ Ok [] = sym back ∙ ap (word_of_run scheme) e ∙ none in cc (same)

slp1_back : (word : List ℕ) → AllByRecursion IsLetter word → word_of_slp1 (slp1_of_word word) ≡ Ok word
unfolding slp1_table word_of_slp1 slp1_of_word
slp1_back word ls = word-bytes slp1_table refl 0 word ls

slp1_printed : (word : List ℕ) → AllByRecursion IsLetter word → IsPrinted Slp1 word
unfolding slp1_of_word word_of_slp1
slp1_printed word ls = record {
  clean = plain_clean (slp1_of_word word) (plain_bytes slp1_table slp1_plain word ls);
  back = slp1_back word ls;
  empty = empty_from Slp1 word refl (slp1_back word ls);
}

wx_back : (word : List ℕ) → AllByRecursion IsLetter word → word_of_wx (wx_of_word word) ≡ Ok word
unfolding wx_table word_of_wx wx_of_word
wx_back word ls = word-bytes wx_table refl 0 word ls

wx_printed : (word : List ℕ) → AllByRecursion IsLetter word → IsPrinted Wx word
unfolding wx_of_word word_of_wx
wx_printed word ls = record {
  clean = plain_clean (wx_of_word word) (plain_bytes wx_table wx_plain word ls);
  back = wx_back word ls;
  empty = empty_from Wx word refl (wx_back word ls);
}

velthuis_back : (word : List ℕ) → AllByRecursion IsLetter word → word_of_velthuis (velthuis_of_word word) ≡ Ok word
unfolding word_of_velthuis velthuis_of_word
velthuis_back word ls = printed_is_read velthuis_front (spelling_of_letter velthuis_table) separates_velthuis word ls

velthuis_printed : (word : List ℕ) → AllByRecursion IsLetter word → IsPrinted Velthuis word
unfolding velthuis_of_word word_of_velthuis
velthuis_printed word ls = record {
  clean = plain_clean (velthuis_of_word word) (plain_spellings velthuis_front velthuis_table velthuis_plain word None ls);
  back = velthuis_back word ls;
  empty = empty_from Velthuis word refl (velthuis_back word ls);
}

harvard_kyoto_back : (word : List ℕ) → AllByRecursion IsLetter word → word_of_harvard_kyoto (harvard_kyoto_of_word word) ≡ Ok word
unfolding word_of_harvard_kyoto harvard_kyoto_of_word
harvard_kyoto_back word ls = printed_is_read harvard_kyoto_front (spelling_of_letter harvard_kyoto_table) separates_harvard_kyoto word ls

harvard_kyoto_printed : (word : List ℕ) → AllByRecursion IsLetter word → IsPrinted HarvardKyoto word
unfolding harvard_kyoto_of_word word_of_harvard_kyoto
harvard_kyoto_printed word ls = record {
  clean = plain_clean (harvard_kyoto_of_word word) (plain_spellings harvard_kyoto_front harvard_kyoto_table harvard_kyoto_plain word None ls);
  back = harvard_kyoto_back word ls;
  empty = empty_from HarvardKyoto word refl (harvard_kyoto_back word ls);
}

iast_back : (word : List ℕ) → AllByRecursion IsLetter word → word_of_composed (iast_of_word word) ≡ Ok word
unfolding word_of_composed iast_of_word
iast_back word ls = printed_is_read iast_front (spelling_of_letter iast_table) separates_iast word ls

iast_printed : (word : List ℕ) → AllByRecursion IsLetter word → IsPrinted Iast word
unfolding iast_of_word word_of_composed
iast_printed word ls = record {
  clean = plain_clean (iast_of_word word) (plain_spellings iast_front iast_table iast_plain word None ls);
  back = iast_back word ls;
  empty = empty_from Iast word refl (iast_back word ls);
}

devanagari_empty : word_of_devanagari [] ≡ Ok []
unfolding devanagari_of_word
devanagari_empty = printed_points_are_read [] tt

devanagari_printed : (word : List ℕ) → AllByRecursion IsLetter word → IsPrinted Devanagari word
unfolding devanagari_of_word word_of_devanagari
devanagari_printed word ls = record {
  clean = clean_points (points_of_word false word) (clean_word false word ls);
  back = printed_points_are_read word ls;
  empty = empty_from Devanagari word devanagari_empty (printed_points_are_read word ls);
}

-- in each scheme a word is printed without marks, and read again
pub word_printed : (scheme : AnyScheme) (word : List ℕ) → AllByRecursion IsLetter word → IsPrinted scheme word
word_printed Slp1 = slp1_printed
word_printed Wx = wx_printed
word_printed Velthuis = velthuis_printed
word_printed Devanagari = devanagari_printed
word_printed Iast = iast_printed
word_printed HarvardKyoto = harvard_kyoto_printed

-- ---- what is read

slp1_letters : (run word : List ℕ) → word_of_slp1 run ≡ Ok word → AllByRecursion IsLetter word
unfolding slp1_table word_of_slp1
slp1_letters run word h = (read_is_printed slp1_table refl 0 run word h).letters

wx_letters : (run word : List ℕ) → word_of_wx run ≡ Ok word → AllByRecursion IsLetter word
unfolding wx_table word_of_wx
wx_letters run word h = (read_is_printed wx_table refl 0 run word h).letters

-- and what is read is a word
pub run_letters : (scheme : AnyScheme) (run word : List ℕ) → word_of_run scheme run ≡ Ok word → AllByRecursion IsLetter word
run_letters Slp1 = slp1_letters
run_letters Wx = wx_letters
run_letters Velthuis = velthuis_reads_words
run_letters Devanagari = devanagari_reads_words
run_letters Iast = composed_reads_words
run_letters HarvardKyoto = harvard_kyoto_reads_words
