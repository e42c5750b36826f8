-- A text of digits is UTF-8 and is parsed as its value, or is too great for 64 bits and so for any limit below.
use Rattle.std.proofs.Common.{◌≡◌, ℕ, ◌^◌, ◌<◌, Bool, true, false, cond, not, ◌&&◌, Err, List, [], ◌∷◌, length, eqb, leb, Some, None, refl, ◌∙◌, ap, subst, arith}
use Rattle.std.specs.Str.{IsUtf8, all_ascii_digits}
use Rattle.std.specs.Str.Parse.{digits_value, ParsesUnsigned}
use Rattle.std.proofs.lemmas.Bool.{and_parts, lt-leb, leb-true, leb-false}
use Rattle.std.proofs.lemmas.Str.{IsUtf8-from_ascii}
use Rattle.std.proofs.lemmas.Str.Parse.{parse_digits}
use Rattle.std.proofs.lemmas.Fmt.{IsAscii-from_digits}
use Rattle.bookmark_definitions.specs.BookmarkReadings.{is_number, number_up_to}
use Rattle.text_definitions.proofs.DecimalDigits.{digits_tell}

-- a number has one digit or more, and digits alone
pub record HasDigits (text : List ℕ) : Type 0 where
  pub digits : all_ascii_digits text ≡ true
  pub some : 0 < length text

pub number_digits : (text : List ℕ) → is_number text ≡ true → HasDigits text
number_digits [] h = absurd (cc)
number_digits (digit ∷ []) h = record { digits = h; some = omega arith }
number_digits (first ∷ second ∷ rest) h =
    record { digits = (and_parts (not (eqb first 48)) (all_ascii_digits (first ∷ second ∷ rest)) h).1; some = omega arith }

pub number_utf8 : (text : List ℕ) → is_number text ≡ true → IsUtf8 text
number_utf8 text h = IsUtf8-from_ascii text (IsAscii-from_digits text (digits_tell.to text (number_digits text h).digits))

never_both : (test : Bool) → (test && false) ≡ false
never_both true = refl
never_both false = refl

pub too_great : (most : ℕ) (text : List ℕ) → most < digits_value 10 text → number_up_to most text ≡ None
too_great most text h =
    ap (λ test. cond (is_number text && test) (Some (digits_value 10 text)) None) (lt-leb (digits_value 10 text) most h)
    ∙ ap (λ test. cond test (Some (digits_value 10 text)) None) (never_both (is_number text))

-- ---- what is parsed

not_held : (value most : ℕ) (test : Bool) → leb value most ≡ test → most < 2 ^ 64 → (value < 2 ^ 64 → ⊥) → most < value
not_held value most true e small never = let within = leb-true value most e in absurd (never (omega (arith, within, small)))
not_held value most false e small never = leb-false value most e

-- what is parsed of other bytes than a number within 64 bits
pub not_parsed : {E : Type 0} (most : ℕ) (text digits : List ℕ) (error : E) → ParsesUnsigned 64 10 digits (Err error) → digits ≡ text → is_number text ≡ true
    → most < 2 ^ 64 → number_up_to most text ≡ None
not_parsed {E} most text digits error parses same h small =
    let has = number_digits text h in
    let refused : ParsesUnsigned {E = E} 64 10 text (Err error) = subst (λ (bytes : List ℕ). ParsesUnsigned {E = E} 64 10 bytes (Err error)) same parses in
    let iff = parse_digits digits_tell 64 text (Err error) refused has.digits in
    too_great most text (not_held (digits_value 10 text) most (leb (digits_value 10 text) most) refl small (λ below. iff (has.some, below)))
