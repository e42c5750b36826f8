-- Numbers and words are read as they are written: digits without a 0 before others are the decimal of their value, and a
-- word is spelled in one way.
use Rattle.std.proofs.Common.{◌≡◌, ℕ, zero, suc, ◌^◌, ◌<◌, ◌≤◌, Bool, true, false, cond, not, ◌&&◌, Ok, Err, List, [], ◌∷◌, length, get_or, eqb, leb, Some, None, refl, sym, ◌∙◌, ap, subst, arith}
use Rattle.std.specs.Fmt.{decimal}
use Rattle.std.specs.Char.{is_ascii_digit}
use Rattle.std.specs.Str.{all_ascii_digits}
use Rattle.std.specs.Str.Parse.{digits_value}
use Rattle.std.proofs.lemmas.Bool.{and_parts, and_from, not_from_false, false_from_ne_true, ne_eqb, eq-eqb, eqb-true, leb-true, le-leb}
use Rattle.std.proofs.lemmas.Fmt.{decimal_digit, first_decimal, decimal_nonempty, digits_decimal, digits_value-decimal, decimal-digits_value}
use Rattle.std.proofs.lemmas.List.Elements.{recursion_from_All}
use Rattle.text_definitions.specs.Letters.{IsLetter}
use Rattle.text_definitions.specs.Words.{IsWord}
use Rattle.text_definitions.specs.Spellings.{Reading}
use Rattle.text_definitions.specs.Slp1.{slp1_table, word_of_slp1, slp1_of_word}
use Rattle.text_definitions.proofs.DecimalDigits.{digits_tell}
use Rattle.text_definitions.proofs.SpelledWords.{spelled_from_read, word_from_read, read_from_spelled, is_no_letter, free_word}
use Rattle.list_laws.proofs.Marks.{is_free}
use Rattle.bookmark_definitions.specs.BookmarkReadings.{is_number, number_up_to, word_up_to}
use Rattle.std.proofs.lemmas.Option.{cond_some}

-- ---- numbers

not_a_zero : (test : Bool) → not test ≡ true → test ≡ true → ⊥
not_a_zero true h e = cc
not_a_zero false h e = cc

-- digits, of which the first is no 0 unless it is all
record IsPlainNumeral (text : List ℕ) : Type 0 where
  digits : all_ascii_digits text ≡ true
  some : 0 < length text
  no_zero : get_or text 0 0 ≡ 48 → length text ≡ 1

from_test : (text : List ℕ) → is_number text ≡ true → IsPlainNumeral text
from_test [] h = absurd (cc)
from_test (digit ∷ []) h = record { digits = h; some = omega arith; no_zero = λ e. refl }
from_test (first ∷ second ∷ rest) h =
    let parts = and_parts (not (eqb first 48)) (all_ascii_digits (first ∷ second ∷ rest)) h in
    record { digits = parts.1; some = omega arith; no_zero = λ e. absurd (not_a_zero (eqb first 48) parts.0 (eq-eqb first 48 e)) }

to_test : (text : List ℕ) → IsPlainNumeral text → is_number text ≡ true
to_test [] h = absurd (omega (arith, h.some))
to_test (digit ∷ []) h = h.digits
to_test (first ∷ second ∷ rest) h =
    and_from _ _ (not_from_false (eqb first 48) (ne_eqb first 48 (λ e. let one = h.no_zero e in omega (arith, one)))) h.digits

pub number_tells : (most : ℕ) → most < 2 ^ 64 → (text : List ℕ) (n : ℕ) → number_up_to most text ≡ Some n → (text ≡ decimal n) × (n ≤ most)
number_tells most small text n h =
    let found = cond_some (is_number text && leb (digits_value 10 text) most) (digits_value 10 text) n h in
    let parts = and_parts (is_number text) (leb (digits_value 10 text) most) found.0 in
    let numeral = from_test text parts.0 in
    let within : digits_value 10 text ≤ most = leb-true (digits_value 10 text) most parts.1 in
    let below : digits_value 10 text < 2 ^ 64 = omega (arith, within, small) in
    let written = decimal-digits_value digits_tell text numeral.digits numeral.some numeral.no_zero below in
    (sym written ∙ ap decimal found.1, subst (λ k. k ≤ most) found.1 within)

no_zero_first : (n : ℕ) → n < 2 ^ 64 → get_or (decimal n) 0 0 ≡ 48 → length (decimal n) ≡ 1
no_zero_first zero small e = ap length (decimal_digit 0 (omega arith))
no_zero_first (suc n) small e = absurd (omega (arith, first_decimal (suc n) (omega arith) small, e))

pub number_back : (most : ℕ) → most < 2 ^ 64 → (n : ℕ) → n ≤ most → number_up_to most (decimal n) ≡ Some n
number_back most small n h =
    let below : n < 2 ^ 64 = omega (arith, small, h) in
    let value : digits_value 10 (decimal n) ≡ n = digits_value-decimal digits_tell n below in
    let test = to_test (decimal n) (record { digits = digits_decimal digits_tell n below; some = decimal_nonempty n below; no_zero = no_zero_first n below }) in
    let within : leb (digits_value 10 (decimal n)) most ≡ true = le-leb (digits_value 10 (decimal n)) most (subst (λ k. k ≤ most) (sym value) h) in
    λ i. cond (test i && within i) (Some (value i)) None

digits_free : (mark : ℕ) (text : List ℕ) → is_ascii_digit mark ≡ false → all_ascii_digits text ≡ true → is_free mark text ≡ true
digits_free mark [] n h = refl
digits_free mark (byte ∷ text) n h =
    let parts = and_parts (is_ascii_digit byte) (all_ascii_digits text) h in
    let other : eqb byte mark ≡ false = false_from_ne_true (eqb byte mark) (λ e. let same : byte ≡ mark = eqb-true byte mark e in let both = ap is_ascii_digit same in cc) in
    ap (λ test. cond test false (is_free mark text)) other ∙ digits_free mark text n parts.1

-- a number is free of each byte that is no digit
pub number_free : (mark : ℕ) → is_ascii_digit mark ≡ false → (n : ℕ) → n < 2 ^ 64 → is_free mark (decimal n) ≡ true
number_free mark other n below = digits_free mark (decimal n) other (digits_decimal digits_tell n below)

-- ---- words

-- a word that is neither empty nor too long
pub record IsShortWord (most : ℕ) (word : List ℕ) : Type 0 where
  pub word_itself : IsWord word
  pub not_empty : 0 < length word
  pub short : length word ≤ most

word_by : (most : ℕ) (reading : Reading) (word : List ℕ) → word_up_to most reading ≡ Some word
    → (reading ≡ Ok word) × (0 < length word) × (length word ≤ most)
word_by most (Err fault) word h = absurd (cc)
word_by most (Ok []) word h = absurd (cc)
word_by most (Ok (letter ∷ letters)) word h =
    let found = cond_some (leb (length (letter ∷ letters)) most) (letter ∷ letters) word h in
    let short : length (letter ∷ letters) ≤ most = leb-true (length (letter ∷ letters)) most found.0 in
    (ap (λ (w : List ℕ). Ok w) found.1, subst (λ (w : List ℕ). 0 < length w) found.1 (omega arith), subst (λ (w : List ℕ). length w ≤ most) found.1 short)

pub word_tells : (most : ℕ) (text word : List ℕ) → word_up_to most (word_of_slp1 text) ≡ Some word
    → (text ≡ slp1_of_word word) × IsShortWord most word
word_tells most text word h =
    let found = word_by most (word_of_slp1 text) word h in
    (sym (spelled_from_read text word found.0), record { word_itself = word_from_read text word found.0; not_empty = found.1; short = found.2 })

short_word : (most : ℕ) (word : List ℕ) → 0 < length word → length word ≤ most → word_up_to most (Ok word) ≡ Some word
short_word most [] some short = absurd (omega (arith, some))
short_word most (letter ∷ word) some short =
    ap (λ test. cond test (Some (letter ∷ word)) None) (le-leb (length (letter ∷ word)) most short)

pub word_back : (most : ℕ) (word : List ℕ) → IsShortWord most word → word_up_to most (word_of_slp1 (slp1_of_word word)) ≡ Some word
word_back most word w =
    ap (word_up_to most) (read_from_spelled (slp1_of_word word) word w.word_itself refl) ∙ short_word most word w.not_empty w.short

-- the spelling of a word is free of each byte that no letter has
pub word_free : (mark : ℕ) → is_no_letter slp1_table mark ≡ true → (word : List ℕ) → IsWord word → is_free mark (slp1_of_word word) ≡ true
unfolding slp1_of_word
word_free mark h word w = free_word slp1_table mark h word (recursion_from_All IsLetter word w)
