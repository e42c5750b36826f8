-- A text is a number where it has digits alone and no 0 before others: these are the digits of its value. The value of few bytes is
-- small, whatever they are, so no other text is the digits of its value.
use Rattle.std.proofs.Common.{mul_assoc, mul_comm, pow-suc, ◌≡◌, ℕ, zero, suc, ◌+◌, ◌-◌, ◌*◌, ◌^◌, ◌<◌, ◌≤◌, Bool, true, false, cond, not, Ok, Err, List, [], ◌∷◌, length, get_or, eqb, leb, Some, None, refl, sym, ◌∙◌, ap, subst, arith}
use Rattle.std.specs.Prelude.{option_and_then, nat_lt, decimal}
use Rattle.std.specs.Char.{digit_value}
use Rattle.std.specs.Str.{IsUtf8, all_ascii_digits, bytes_eq}
use Rattle.std.specs.Str.Parse.{digits_value, digits_value_after, ParsesUnsigned}
use Rattle.std.proofs.lemmas.Bool.{and_parts, and_from, not_from_false, ne_eqb, eq-eqb, leb-true, ltb-true}
use Rattle.std.proofs.lemmas.Nat.{mul-le}
use Rattle.std.proofs.Math.Nat.{pow-le-pow_right}
use Rattle.std.proofs.lemmas.Str.{IsUtf8-from_ascii}
use Rattle.std.proofs.lemmas.Str.Parse.{parse_digits, digits_value_short}
use Rattle.std.proofs.lemmas.Fmt.{IsAscii-from_digits, decimal_digit, first_decimal, decimal_nonempty, digits_decimal, decimal-digits_value, length-decimal-le}
use Rattle.list_laws.proofs.Texts.{bytes_same, bytes_itself}
use Rattle.text_definitions.proofs.DecimalDigits.{digits_tell}
use Rattle.lexicon_definitions.specs.declared.limits.TheConstants.{MOST_FORM_LETTERS}
use Rattle.trie_text_definitions.specs.NodeFields.{number_of, most_node_digits}
use Rattle.lexicon_file.specs.Numbers.{is_number, if_cut, cut_of}

-- ---- the value of few bytes

by_test : (test : Bool) (m n : ℕ) → m ≤ 36 → n ≤ 36 → cond test m n ≤ 36
by_test true m n h k = h
by_test false m n h k = k

by_range : (c base above rest : ℕ) (test : Bool) → nat_lt c above ≡ test → above ≤ base + 37 → rest ≤ 36 → cond test (c - base) rest ≤ 36
by_range c base above rest true e l h = let below = ltb-true c above e in omega (arith, below, l)
by_range c base above rest false e l h = h

digit_small : (c : ℕ) → digit_value c ≤ 36
digit_small c =
    by_test (nat_lt c 48) 36 _ (omega arith)
    (by_range c 48 58 _ (nat_lt c 58) refl (omega arith)
    (by_test (nat_lt c 65) 36 _ (omega arith)
    (by_range c 55 91 _ (nat_lt c 91) refl (omega arith)
    (by_test (nat_lt c 97) 36 _ (omega arith)
    (by_range c 87 123 36 (nat_lt c 123) refl (omega arith) (omega arith))))))

value_small : (n : ℕ) (text : List ℕ) → digits_value_after 10 n text + 4 ≤ (n + 4) * 10 ^ length text
value_small n [] = omega arith
value_small n (c ∷ text) =
    let later = value_small (n * 10 + digit_value c) text in
    let digit = digit_small c in
    let tens = 10 ^ length text in
    let up : (n * 10 + digit_value c + 4) * tens ≤ ((n + 4) * 10) * tens = mul-le (n * 10 + digit_value c + 4) tens ((n + 4) * 10) tens (omega (arith, digit)) (omega arith) in
    let same : ((n + 4) * 10) * tens ≡ (n + 4) * 10 ^ suc (length text) =
    mul_assoc (n + 4) 10 tens ∙ ap (λ m. (n + 4) * m) (mul_comm 10 tens ∙ sym (pow-suc 10 (length text))) in
    omega (arith, later, up, same)

few_small : (text : List ℕ) → length text ≤ most_node_digits → digits_value 10 text < 2 ^ 64
few_small text few =
    let low = value_small 0 text in
    let most : 10 ^ length text ≤ 10 ^ 9 = pow-le-pow_right (omega arith) few in
    omega (arith, low, most)

-- ---- numbers

-- digits, of which the first is no 0 unless it is all
record IsPlainNumeral (text : List ℕ) : Type 0 where
  digits : all_ascii_digits text ≡ true
  some : 0 < length text
  no_zero : get_or text 0 0 ≡ 48 → length text ≡ 1

not_a_zero : (test : Bool) → not test ≡ true → test ≡ true → ⊥
not_a_zero true h e = cc
not_a_zero false h e = cc

from_test : (text : List ℕ) → is_number text ≡ true → IsPlainNumeral text
from_test [] h = absurd (cc)
from_test (digit ∷ []) h = record { digits = h; some = omega arith; no_zero = λ e. refl }
from_test (first ∷ second ∷ rest) h =
    let parts = and_parts (not (eqb first 48)) (all_ascii_digits (first ∷ second ∷ rest)) h in
    record { digits = parts.1; some = omega arith; no_zero = λ e. absurd (not_a_zero (eqb first 48) parts.0 (eq-eqb first 48 e)) }

to_test : (text : List ℕ) → IsPlainNumeral text → is_number text ≡ true
to_test [] h = absurd (omega (arith, h.some))
to_test (digit ∷ []) h = h.digits
to_test (first ∷ second ∷ rest) h =
    and_from _ _ (not_from_false (eqb first 48) (ne_eqb first 48 (λ e. let one = h.no_zero e in omega (arith, one)))) h.digits

no_zero_first : (n : ℕ) → n < 2 ^ 64 → get_or (decimal n) 0 0 ≡ 48 → length (decimal n) ≡ 1
no_zero_first zero small e = ap length (decimal_digit 0 (omega arith))
no_zero_first (suc n) small e = absurd (omega (arith, first_decimal (suc n) (omega arith) small, e))

-- the digits of a number are one
decimal_test : (n : ℕ) → n < 2 ^ 64 → is_number (decimal n) ≡ true
decimal_test n small =
    to_test (decimal n) (record { digits = digits_decimal digits_tell n small; some = decimal_nonempty n small; no_zero = no_zero_first n small })

-- a number is the digits of its value, and few other bytes are not
pub number_is : (text : List ℕ) → length text ≤ most_node_digits → is_number text ≡ true → number_of text ≡ Some (digits_value 10 text)
number_is text few h =
    let numeral = from_test text h in
    let written = decimal-digits_value digits_tell text numeral.digits numeral.some numeral.no_zero (few_small text few) in
    let same : bytes_eq text (decimal (digits_value 10 text)) ≡ true = subst (λ (digits : List ℕ). bytes_eq text digits ≡ true) (sym written) (bytes_itself text) in
    ap (λ test. cond test (Some (digits_value 10 text)) None) same

none_by : (text : List ℕ) (test : Bool) → bytes_eq text (decimal (digits_value 10 text)) ≡ test → digits_value 10 text < 2 ^ 64 → is_number text ≡ false
    → cond test (Some (digits_value 10 text)) None ≡ None
none_by text true e small h =
    let same = bytes_same text (decimal (digits_value 10 text)) e in
    let is : is_number text ≡ true = ap is_number same ∙ decimal_test (digits_value 10 text) small in
    absurd (cc)
none_by text false e small h = refl

pub not_number : (text : List ℕ) → length text ≤ most_node_digits → is_number text ≡ false → number_of text ≡ None
not_number text few h = none_by text (bytes_eq text (decimal (digits_value 10 text))) refl (few_small text few) h

pub number_utf8 : (text : List ℕ) → is_number text ≡ true → IsUtf8 text
number_utf8 text h = IsUtf8-from_ascii text (IsAscii-from_digits text (digits_tell.to text (from_test text h).digits))

-- ---- what is parsed

-- few digits are parsed as their value
pub parsed_number : (E : Type 0) (text digits : List ℕ) (number : ℕ) → ParsesUnsigned {E = E} 32 10 digits (Ok number) → digits ≡ text → is_number text ≡ true
    → number ≡ digits_value 10 text
parsed_number E text digits number parses same h =
    let here : ParsesUnsigned {E = E} 32 10 text (Ok number) = subst (λ (bytes : List ℕ). ParsesUnsigned {E = E} 32 10 bytes (Ok number)) same parses in
    (parse_digits digits_tell {E = E} 32 text (Ok number) here (from_test text h).digits).1

pub always_parsed : {E : Type 0} (text digits : List ℕ) (error : E) → ParsesUnsigned 32 10 digits (Err error) → digits ≡ text → is_number text ≡ true
    → length text ≤ most_node_digits → ⊥
always_parsed {E} text digits error parses same h few =
    let refused : ParsesUnsigned {E = E} 32 10 text (Err error) = subst (λ (bytes : List ℕ). ParsesUnsigned {E = E} 32 10 bytes (Err error)) same parses in
    let numeral = from_test text h in
    let value = digits_value_short digits_tell text 9 numeral.digits few in
    parse_digits digits_tell 32 text (Err error) refused numeral.digits (numeral.some, omega (arith, value))

-- ---- cuts

long_by : (text : List ℕ) (test : Bool) → bytes_eq text (decimal (digits_value 10 text)) ≡ test → (within : Bool) → leb (digits_value 10 text) MOST_FORM_LETTERS ≡ within
    → most_node_digits < length text → option_and_then if_cut (cond test (Some (digits_value 10 text)) None) ≡ None
long_by text true e true w many =
    let small = leb-true (digits_value 10 text) MOST_FORM_LETTERS w in
    let same = ap length (bytes_same text (decimal (digits_value 10 text)) e) in
    let short = length-decimal-le 2 (digits_value 10 text) (omega arith) (omega (arith, small)) (omega (arith, small)) in
    absurd (omega (arith, same, short, many))
long_by text true e false w many = ap (λ test. cond test (Some (digits_value 10 text)) None) w
long_by text false e within w many = refl

-- more digits write no cut
pub long_cut : (text : List ℕ) → most_node_digits < length text → cut_of text ≡ None
long_cut text many = long_by text (bytes_eq text (decimal (digits_value 10 text))) refl (leb (digits_value 10 text) MOST_FORM_LETTERS) refl many
