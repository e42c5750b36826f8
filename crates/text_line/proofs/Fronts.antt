-- What a text begins with: by a test of each third byte that the prover computes, and by the first byte elsewhere.
use Rattle.std.proofs.Common.{◌≡◌, ℕ, ◌<◌, ◌≤◌, Bool, true, false, cond, ◌&&◌, List, [], ◌∷◌, ◌++◌, length, get_or, encode_utf8, eqb, ltb, arith, ap, ◌∙◌, sym, subst, ◌⊎◌, inl, inr, refl}
use Rattle.std.proofs.lemmas.Bool.{eqb-true, and_parts}
use Rattle.std.proofs.lemmas.Bool.Decides.{nat_tests}
use Rattle.text_definitions.specs.Schemes.{Scheme, Slp1, Wx, Velthuis, Devanagari}
use Rattle.text_line.specs.declared.scheme.Scheme as names
use Rattle.text_line.specs.declared.scheme.Scheme.TheVariants as variants
use Rattle.text_line.specs.Values.{scheme_of}
use Rattle.text_definitions.specs.LineTexts.{Front, GapMark, DigitMark, Other, front_by, begins_with, front_length, gap_marks, digits, front_of}
use Rattle.text_definitions.proofs.Tables.{passes_at}

-- the lengths of the gap mark and of the digit that the bytes E0 A5 begin, by ranges of the third byte
abbrev gap_by_range : ℕ → ℕ
gap_by_range third = cond (ltb third 164) 0 (cond (ltb third 166) 3 0)

abbrev digit_by_range : ℕ → ℕ
digit_by_range third = cond (ltb third 166) 0 (cond (ltb third 176) 3 0)

abbrev in_range : ℕ → Bool
in_range third =
    eqb (front_length (gap_marks Devanagari) (0xE0 ∷ 0xA5 ∷ third ∷ [])) (gap_by_range third) && eqb (front_length (digits Devanagari) (0xE0 ∷ 0xA5 ∷ third ∷ [])) (digit_by_range third)

block_front : (third : ℕ) (text : List ℕ) → third < 256 → front_of Devanagari (0xE0 ∷ 0xA5 ∷ third ∷ text) ≡ front_by (gap_by_range third) (digit_by_range third)
unfolding front_of lib.Utf8.encode
block_front third text h =
    let same = and_parts _ _ (passes_at 256 in_range refl third h) in
    ap (λ n. front_by n (front_length (digits Devanagari) (0xE0 ∷ 0xA5 ∷ third ∷ text))) (eqb-true _ _ same.0) ∙ ap (front_by (gap_by_range third)) (eqb-true _ _ same.1)

pub block_gap : (third : ℕ) (text : List ℕ) → third < 256 → 164 ≤ third → third < 166 → GapMark 2 ≡ front_of Devanagari (0xE0 ∷ 0xA5 ∷ third ∷ text)
block_gap third text h low high =
    let gap : gap_by_range third ≡ 3 = grind (arith, nat_tests) in
    sym (block_front third text h ∙ ap (λ n. front_by n (digit_by_range third)) gap)

pub block_digit : (third : ℕ) (text : List ℕ) → third < 256 → 166 ≤ third → third < 176 → DigitMark 2 ≡ front_of Devanagari (0xE0 ∷ 0xA5 ∷ third ∷ text)
block_digit third text h low high =
    let gap : gap_by_range third ≡ 0 = grind (arith, nat_tests) in
    let digit : digit_by_range third ≡ 3 = grind (arith, nat_tests) in
    sym (block_front third text h ∙ ap (λ n. front_by n (digit_by_range third)) gap ∙ ap (front_by 0) digit)

pub block_low : (third : ℕ) (text : List ℕ) → third < 256 → third < 164 → Other ≡ front_of Devanagari (0xE0 ∷ 0xA5 ∷ third ∷ text)
block_low third text h low =
    let gap : gap_by_range third ≡ 0 = grind (arith, nat_tests) in
    let digit : digit_by_range third ≡ 0 = grind (arith, nat_tests) in
    sym (block_front third text h ∙ ap (λ n. front_by n (digit_by_range third)) gap ∙ ap (front_by 0) digit)

pub block_high : (third : ℕ) (text : List ℕ) → third < 256 → 176 ≤ third → Other ≡ front_of Devanagari (0xE0 ∷ 0xA5 ∷ third ∷ text)
block_high third text h high =
    let gap : gap_by_range third ≡ 0 = grind (arith, nat_tests) in
    let digit : digit_by_range third ≡ 0 = grind (arith, nat_tests) in
    sym (block_front third text h ∙ ap (λ n. front_by n (digit_by_range third)) gap ∙ ap (front_by 0) digit)

-- the empty text begins with no mark
pub front_of_none : (scheme : Scheme) (text : List ℕ) → length text < 1 → Other ≡ front_of scheme text
unfolding front_of lib.Utf8.encode
front_of_none Slp1 [] h = refl
front_of_none Wx [] h = refl
front_of_none Velthuis [] h = refl
front_of_none Devanagari [] h = refl
front_of_none scheme (byte ∷ text) h = absurd (omega arith)

-- what the first byte tells of each text
pub front_by_first : (front : Front) (text : List ℕ) → 0 < length text → ((rest : List ℕ) → front ≡ front_of Slp1 (get_or text 0 0 ∷ rest)) → front ≡ front_of Slp1 text
front_by_first front [] h f = absurd (omega arith)
front_by_first front (byte ∷ text) h f = f text

front_length_append : (xs ys text : List ℕ) → front_length ys text ≡ 0 → front_length (xs ++ ys) text ≡ front_length xs text
front_length_append [] ys text h = h
front_length_append (x ∷ xs) ys text h = ap (cond (begins_with (encode_utf8 x) text) (length (encode_utf8 x))) (front_length_append xs ys text h)

skip : (b : Bool) (m n : ℕ) → b ≡ false → n ≡ 0 → cond b m n ≡ 0
skip true m n h e = absurd (cc)
skip false m n h e = e

-- a text that does not begin with the bytes E0 A5 and one more begins in Devanagari as in the schemes in ASCII
devanagari_same : (text : List ℕ) → ((third : ℕ) → begins_with (0xE0 ∷ 0xA5 ∷ third ∷ []) text ≡ false) → front_of Devanagari text ≡ front_of Slp1 text
unfolding front_of lib.Utf8.encode
devanagari_same text h =
    let gap = front_length_append (gap_marks Slp1) (0x0964 ∷ 0x0965 ∷ []) text (skip _ 3 _ (h 0xA4) (skip _ 3 _ (h 0xA5) refl)) in
    let digit = front_length_append (digits Slp1) (0x0966 ∷ 0x0967 ∷ 0x0968 ∷ 0x0969 ∷ 0x096A ∷ 0x096B ∷ 0x096C ∷ 0x096D ∷ 0x096E ∷ 0x096F ∷ []) text (skip _ 3 _ (h 0xA6) (skip _ 3 _ (h 0xA7) (skip _ 3 _ (h 0xA8) (skip _ 3 _ (h 0xA9) (skip _ 3 _ (h 0xAA) (skip _ 3 _ (h 0xAB) (skip _ 3 _ (h 0xAC) (skip _ 3 _ (h 0xAD) (skip _ 3 _ (h 0xAE) (skip _ 3 _ (h 0xAF) refl)))))))))) in
    ap (λ n. front_by n (front_length (digits Devanagari) text)) gap ∙ ap (front_by (front_length (gap_marks Slp1) text)) digit

no_block_by : (first second : Bool) → (first ≡ true → second ≡ true → ⊥) → (rest : Bool) → first && (second && rest) ≡ false
no_block_by true true h rest = absurd (h refl refl)
no_block_by true false h rest = refl
no_block_by false second h rest = refl

short_block : (first second : Bool) → first && (second && false) ≡ false
short_block true true = refl
short_block true false = refl
short_block false second = refl

no_block : (text : List ℕ) → (3 ≤ length text → get_or text 0 0 ≡ 0xE0 → get_or text 1 0 ≡ 0xA5 → ⊥) → (third : ℕ) → begins_with (0xE0 ∷ 0xA5 ∷ third ∷ []) text ≡ false
no_block [] h third = refl
no_block (a ∷ []) h third = no_block_by (eqb a 0xE0) false (λ p q. absurd (cc)) false
no_block (a ∷ b ∷ []) h third = short_block (eqb a 0xE0) (eqb b 0xA5)
no_block (a ∷ b ∷ c ∷ text) h third =
    no_block_by (eqb a 0xE0) (eqb b 0xA5) (λ p q. h (omega arith) (eqb-true a 0xE0 p) (eqb-true b 0xA5 q)) (eqb c third && true)

-- the same by what the first bytes are
pub devanagari_first : (text : List ℕ) → (3 ≤ length text → get_or text 0 0 ≡ 0xE0 → get_or text 1 0 ≡ 0xA5 → ⊥) → front_of Slp1 text ≡ front_of Devanagari text
devanagari_first text h = sym (devanagari_same text (no_block text h))

-- the program's names of the schemes in ASCII
pub latin_named : (scheme : names.Scheme) (text : List ℕ) → (scheme ≡ variants.Slp1) ⊎ ((scheme ≡ variants.Wx) ⊎ (scheme ≡ variants.Velthuis)) → front_of Slp1 text ≡ front_of (scheme_of scheme) text
unfolding front_of
latin_named scheme text h =
    let P : names.Scheme → Type 0 = λ s. front_of Slp1 text ≡ front_of (scheme_of s) text in
    elim h [
      | inl slp1 ↦ subst P (sym slp1) refl
      | inr other ↦ elim other [ inl wx ↦ subst P (sym wx) refl | inr velthuis ↦ subst P (sym velthuis) refl ]
    ]
