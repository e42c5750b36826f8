-- One to nineteen digits are UTF-8 and are parsed as their value, which is below 2 ^ 64.
use Rattle.std.proofs.Common.{◌≡◌, ℕ, ◌<◌, ◌≤◌, ◌^◌, true, ◌&&◌, Ok, Err, List, length, leb, sym, subst, arith}
use Rattle.std.specs.Str.{IsUtf8, all_ascii_digits}
use Rattle.std.specs.Str.Parse.{digits_value, ParsesUnsigned}
use Rattle.std.proofs.lemmas.Bool.{and_parts, leb-true}
use Rattle.std.proofs.lemmas.Str.{IsUtf8-from_ascii}
use Rattle.std.proofs.lemmas.Str.Parse.{parse_digits, digits_value_short}
use Rattle.std.proofs.lemmas.Fmt.{IsAscii-from_digits}
use Rattle.text_definitions.specs.TypedNumbers.{are_digits_up_to}
use Rattle.text_definitions.proofs.DecimalDigits.{digits_tell}

-- one digit or more, and not too many
pub record HasDigits (most : ℕ) (text : List ℕ) : Type 0 where
  pub digits : all_ascii_digits text ≡ true
  pub some : 1 ≤ length text
  pub few : length text ≤ most

pub has_digits : (most : ℕ) (text : List ℕ) → are_digits_up_to most text ≡ true → HasDigits most text
has_digits most text h =
    let parts = and_parts (leb 1 (length text) && leb (length text) most) (all_ascii_digits text) h in
    let long = and_parts (leb 1 (length text)) (leb (length text) most) parts.0 in
    record { digits = parts.1; some = leb-true 1 (length text) long.0; few = leb-true (length text) most long.1 }

pub digits_utf8 : (most : ℕ) (text : List ℕ) → are_digits_up_to most text ≡ true → IsUtf8 text
digits_utf8 most text h = IsUtf8-from_ascii text (IsAscii-from_digits text (digits_tell.to text (has_digits most text h).digits))

-- what is parsed of at most so many digits is below that power of ten
pub parsed_small : (most : ℕ) (text digits : List ℕ) (number : ℕ) → ParsesUnsigned {E = ℕ} 64 10 digits (Ok number) → digits ≡ text
    → are_digits_up_to most text ≡ true → number < 10 ^ most
parsed_small most text digits number parses same h =
    let has = has_digits most text h in
    let here : ParsesUnsigned {E = ℕ} 64 10 text (Ok number) = subst (λ (bytes : List ℕ). ParsesUnsigned {E = ℕ} 64 10 bytes (Ok number)) same parses in
    let is : number ≡ digits_value 10 text = (parse_digits digits_tell {E = ℕ} 64 text (Ok number) here has.digits).1 in
    subst (λ (n : ℕ). n < 10 ^ most) (sym is) (digits_value_short digits_tell text most has.digits has.few)

-- at most nineteen digits write a number of 64 bits
pub never_refused : {E : Type 0} (most : ℕ) (text digits : List ℕ) (error : E) → ParsesUnsigned 64 10 digits (Err error) → digits ≡ text
    → are_digits_up_to most text ≡ true → most ≤ 19 → ⊥
never_refused {E} most text digits error parses same h small =
    let has = has_digits most text h in
    let refused : ParsesUnsigned {E = E} 64 10 text (Err error) = subst (λ (bytes : List ℕ). ParsesUnsigned {E = E} 64 10 bytes (Err error)) same parses in
    let value = digits_value_short digits_tell text 19 has.digits (omega (arith, has.few, small)) in
    parse_digits digits_tell 64 text (Err error) refused has.digits (omega (arith, has.some), omega (arith, value))
