-- What is printed in Devanagari is read as the same word: the tables by tests that the prover computes, the rest by induction on the word.
use Rattle.std.proofs.Common.{◌≡◌, ℕ, ◌+◌, ◌-◌, ◌≤◌, Bool, true, false, cond, ◌&&◌, List, [], ◌∷◌, ◌++◌, length, slice_index, Ok, Err, eqb, encode_utf8, encode_utf8_all, arith, ap, ◌∙◌, sym, refl}
use Rattle.std.specs.Str.{chars, all_scalars}
use Rattle.std.specs.Str.Lossy.{utf8_valid_len}
use Rattle.std.specs.List.{AllByRecursion}
use Rattle.std.proofs.lemmas.Str.{chars-encodes, is_utf8-from_IsUtf8}
use Rattle.std.proofs.lemmas.Bool.{eqb-true, and_parts}
use Rattle.std.proofs.lemmas.Bool.Decides.{nat_tests}
use Rattle.text_definitions.specs.Letters.{IsLetter}
use Rattle.text_definitions.specs.Spellings.{NotUtf8, with_letter}
use Rattle.text_definitions.specs.Devanagari.{devanagari_table, devanagari_signs, is_vowel, is_consonant, PointKind, Joiner, Virama, Letter, Sign, Foreign, kind_of_point, reading_at, word_of_points, word_of_devanagari, sign_of_vowel, points_of_letter, points_of_word, devanagari_of_word}
use Rattle.text_definitions.proofs.Tables.{passes_below, passes_at}

abbrev is_letter : PointKind → ℕ → Bool
is_letter (Letter letter) n = eqb letter n
is_letter Joiner n = false
is_letter Virama n = false
is_letter (Sign vowel) n = false
is_letter Foreign n = false

abbrev is_sign : PointKind → ℕ → Bool
is_sign (Sign vowel) n = eqb vowel n
is_sign Joiner n = false
is_sign Virama n = false
is_sign (Letter letter) n = false
is_sign Foreign n = false

letter_from : (kind : PointKind) (n : ℕ) → is_letter kind n ≡ true → kind ≡ Letter n
letter_from (Letter letter) n h = ap (λ m. Letter m) (eqb-true letter n h)
letter_from Joiner n h = absurd (cc)
letter_from Virama n h = absurd (cc)
letter_from (Sign vowel) n h = absurd (cc)
letter_from Foreign n h = absurd (cc)

sign_from : (kind : PointKind) (n : ℕ) → is_sign kind n ≡ true → kind ≡ Sign n
sign_from (Sign vowel) n h = ap (λ m. Sign m) (eqb-true vowel n h)
sign_from Joiner n h = absurd (cc)
sign_from Virama n h = absurd (cc)
sign_from (Letter letter) n h = absurd (cc)
sign_from Foreign n h = absurd (cc)

abbrev reads_letter : ℕ → Bool
reads_letter k = is_letter (kind_of_point (slice_index devanagari_table k)) (k + 1) && all_scalars (slice_index devanagari_table k ∷ [])

abbrev reads_sign : ℕ → Bool
reads_sign k = is_sign (kind_of_point (slice_index devanagari_signs k)) (k + 2) && all_scalars (slice_index devanagari_signs k ∷ [])

letters_pass : passes_below 50 reads_letter ≡ true
unfolding devanagari_table devanagari_signs kind_of_point
letters_pass = refl

signs_pass : passes_below 12 reads_sign ≡ true
unfolding devanagari_table devanagari_signs kind_of_point
signs_pass = refl

virama_kind : kind_of_point 0x094D ≡ Virama
unfolding kind_of_point
virama_kind = refl

-- the code point of a letter is read as this letter, and is one
letter_point : (n : ℕ) → IsLetter n → (kind_of_point (slice_index devanagari_table (n - 1)) ≡ Letter n) × (all_scalars (slice_index devanagari_table (n - 1) ∷ []) ≡ true)
letter_point n l =
    let at : n - 1 + 1 ≡ n = omega arith in
    let h = and_parts _ _ (passes_at 50 reads_letter letters_pass (n - 1) (omega arith)) in
    (letter_from _ _ h.0 ∙ ap (λ m. Letter m) at, h.1)

-- so is the sign of a vowel other than a
sign_point : (n : ℕ) → 2 ≤ n → n ≤ 13 → (kind_of_point (slice_index devanagari_signs (n - 2)) ≡ Sign n) × (all_scalars (slice_index devanagari_signs (n - 2) ∷ []) ≡ true)
sign_point n low high =
    let at : n - 2 + 2 ≡ n = omega arith in
    let h = and_parts _ _ (passes_at 12 reads_sign signs_pass (n - 2) (omega arith)) in
    (sign_from _ _ h.0 ∙ ap (λ m. Sign m) at, h.1)

-- a letter that stands after no bare consonant
alone : (place n : ℕ) (word : List ℕ) → IsLetter n → ((p : ℕ) (bare : Bool) → word_of_points p bare (points_of_word bare word) ≡ Ok word) → word_of_points place false (slice_index devanagari_table (n - 1) ∷ points_of_word (is_consonant n) word) ≡ Ok (n ∷ word)
alone place n word l reads =
    let point = slice_index devanagari_table (n - 1) in
    let next = place + length (encode_utf8 point) in
    ap (λ kind. reading_at place false kind (λ after. word_of_points next after (points_of_word (is_consonant n) word))) (letter_point n l).0
    ∙ ap (with_letter n) (reads next (is_consonant n))

-- before a letter that stands by itself, and at the end, a bare consonant has its a
with_a : (place : ℕ) (word : List ℕ) → AllByRecursion IsLetter word → word_of_points place true (points_of_word false word) ≡ with_letter 1 (word_of_points place false (points_of_word false word))
with_a place [] ls = refl
with_a place (n ∷ word) ls =
    let point = slice_index devanagari_table (n - 1) in
    let rest = λ (after : Bool). word_of_points (place + length (encode_utf8 point)) after (points_of_word (is_consonant n) word) in
    let kind = (letter_point n ls.0).0 in
    ap (λ k. reading_at place true k rest) kind ∙ sym (ap (λ k. with_letter 1 (reading_at place false k rest)) kind)

no_consonant : (n : ℕ) → n ≤ 13 → is_consonant n ≡ false
no_consonant n h = grind (arith, nat_tests)

vowel_from : (n : ℕ) → is_vowel n ≡ true → n ≤ 13
vowel_from n h = grind (arith, nat_tests)

-- the sign of a vowel
by_sign : (place n : ℕ) (word : List ℕ) (a : Bool) → eqb n 1 ≡ a → IsLetter n → AllByRecursion IsLetter word → n ≤ 13 → ((p : ℕ) (bare : Bool) → word_of_points p bare (points_of_word bare word) ≡ Ok word) → word_of_points place true (cond a [] (slice_index devanagari_signs (n - 2) ∷ []) ++ points_of_word (is_consonant n) word) ≡ Ok (n ∷ word)
by_sign place n word true e l ls vowel reads =
    let is = eqb-true n 1 e in
    ap (λ after. word_of_points place true (points_of_word after word)) (no_consonant n vowel)
    ∙ with_a place word ls
    ∙ ap (with_letter 1) (reads place false)
    ∙ ap (λ m. Ok (m ∷ word)) (sym is)
by_sign place n word false e l ls vowel reads =
    let two : 2 ≤ n = grind (arith, nat_tests) in
    let point = slice_index devanagari_signs (n - 2) in
    let next = place + length (encode_utf8 point) in
    ap (λ kind. reading_at place true kind (λ after. word_of_points next after (points_of_word (is_consonant n) word))) (sign_point n two vowel).0
    ∙ ap (λ after. with_letter n (word_of_points next false (points_of_word after word))) (no_consonant n vowel)
    ∙ ap (with_letter n) (reads next false)

-- a letter after a bare consonant
following : (place n : ℕ) (word : List ℕ) (vowel : Bool) → is_vowel n ≡ vowel → IsLetter n → AllByRecursion IsLetter word → ((p : ℕ) (bare : Bool) → word_of_points p bare (points_of_word bare word) ≡ Ok word) → word_of_points place true (cond vowel (sign_of_vowel n) (0x094D ∷ slice_index devanagari_table (n - 1) ∷ []) ++ points_of_word (is_consonant n) word) ≡ Ok (n ∷ word)
following place n word true e l ls reads = by_sign place n word (eqb n 1) refl l ls (vowel_from n e) reads
following place n word false e l ls reads =
    let rest = slice_index devanagari_table (n - 1) ∷ points_of_word (is_consonant n) word in
    let next = place + length (encode_utf8 0x094D) in
    ap (λ kind. reading_at place true kind (λ after. word_of_points next after rest)) virama_kind ∙ alone next n word l reads

reads_points : (word : List ℕ) → AllByRecursion IsLetter word → (place : ℕ) (bare : Bool) → word_of_points place bare (points_of_word bare word) ≡ Ok word
reads_points [] ls place false = refl
reads_points [] ls place true = ap (λ kind. reading_at place true kind (λ after. word_of_points (place + length (encode_utf8 0x094D)) after [])) virama_kind
reads_points (n ∷ word) ls place false = alone place n word ls.0 (reads_points word ls.1)
reads_points (n ∷ word) ls place true = following place n word (is_vowel n) refl ls.0 ls.1 (reads_points word ls.1)

-- what is printed are code points that have a UTF-8 form
scalars_join : (xs ys : List ℕ) → all_scalars xs ≡ true → all_scalars ys ≡ true → all_scalars (xs ++ ys) ≡ true
scalars_join [] ys h k = k
scalars_join (x ∷ xs) ys h k = let p = and_parts _ _ h in ap (λ b. b && all_scalars (xs ++ ys)) p.0 ∙ scalars_join xs ys p.1 k

scalars_of_sign : (n : ℕ) (a : Bool) → eqb n 1 ≡ a → IsLetter n → n ≤ 13 → all_scalars (cond a [] (slice_index devanagari_signs (n - 2) ∷ [])) ≡ true
scalars_of_sign n true e l vowel = refl
scalars_of_sign n false e l vowel = let two : 2 ≤ n = grind (arith, nat_tests) in (sign_point n two vowel).1

scalars_after : (n : ℕ) (vowel : Bool) → is_vowel n ≡ vowel → IsLetter n → all_scalars (cond vowel (sign_of_vowel n) (0x094D ∷ slice_index devanagari_table (n - 1) ∷ [])) ≡ true
scalars_after n true e l = scalars_of_sign n (eqb n 1) refl l (vowel_from n e)
scalars_after n false e l = (letter_point n l).1

scalars_of_letter : (bare : Bool) (n : ℕ) → IsLetter n → all_scalars (points_of_letter bare n) ≡ true
scalars_of_letter false n l = (letter_point n l).1
scalars_of_letter true n l = scalars_after n (is_vowel n) refl l

scalars_of_word : (bare : Bool) (word : List ℕ) → AllByRecursion IsLetter word → all_scalars (points_of_word bare word) ≡ true
scalars_of_word false [] ls = refl
scalars_of_word true [] ls = refl
scalars_of_word false (n ∷ word) ls = scalars_join (points_of_letter false n) (points_of_word (is_consonant n) word) (scalars_of_letter false n ls.0) (scalars_of_word (is_consonant n) word ls.1)
scalars_of_word true (n ∷ word) ls = scalars_join (points_of_letter true n) (points_of_word (is_consonant n) word) (scalars_of_letter true n ls.0) (scalars_of_word (is_consonant n) word ls.1)

-- what Devanagari prints is read as the same word
pub printed_points_are_read : (word : List ℕ) → AllByRecursion IsLetter word → word_of_devanagari (devanagari_of_word word) ≡ Ok word
unfolding word_of_devanagari devanagari_of_word
printed_points_are_read word ls =
    let points = points_of_word false word in
    let text = encode_utf8_all points in
    let scalar = scalars_of_word false word ls in
    ap (λ b. cond b (word_of_points 0 false (chars text)) (Err (NotUtf8 (utf8_valid_len text)))) (is_utf8-from_IsUtf8 text (points, (scalar, refl)))
    ∙ ap (word_of_points 0 false) (chars-encodes points scalar)
    ∙ reads_points word ls 0 false
