-- Decimal digits tell their value, by std's lemmas on numerals; a test of each byte is std's test of all.
use Rattle.std.proofs.Common.{◌≡◌, ℕ, true, ◌&&◌, List, [], ◌∷◌, refl, ap}
use Rattle.std.specs.List.{list_all}
use Rattle.std.specs.Char.{is_ascii_digit}
use Rattle.std.specs.Str.{all_ascii_digits}
use Rattle.std.specs.Str.Parse.{digits_value}
use Rattle.std.proofs.lemmas.Str.Parse.{IsNumeralModel, numerals_by_value, tells_all_ascii_digits}

-- digits tell their value
pub digits_tell : IsNumeralModel (λ ds. all_ascii_digits ds ≡ true) (digits_value 10)
digits_tell = numerals_by_value (λ ds. all_ascii_digits ds ≡ true) tells_all_ascii_digits

-- a test of each byte
pub all_digits : (text : List ℕ) → list_all is_ascii_digit text ≡ all_ascii_digits text
all_digits [] = refl
all_digits (byte ∷ text) = ap (λ rest. is_ascii_digit byte && rest) (all_digits text)
