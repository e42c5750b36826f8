-- Numbers in decimal digits.
use Rattle.std.specs.Prelude.{ℕ, ◌==◌, ◌&&◌, not, nat_le, Bool, false, if◌then◌else◌, Option, Some, None, option_and_then, List, [], ◌∷◌}
use Rattle.std.specs.Str.{all_ascii_digits}
use Rattle.lexicon_definitions.specs.declared.limits.TheConstants.{MOST_FORM_LETTERS}
use Rattle.trie_text_definitions.specs.NodeFields.{number_of}

-- a number has one digit or more, and no 0 before others
abbrev pub is_number : List ℕ → Bool
is_number [] = false
is_number (digit ∷ []) = all_ascii_digits (digit ∷ [])
is_number (first ∷ second ∷ rest) = not (first == 48) && all_ascii_digits (first ∷ second ∷ rest)

-- the number, where a delta may cut so many letters
abbrev pub if_cut : ℕ → Option ℕ
if_cut cut = if nat_le cut MOST_FORM_LETTERS then Some cut else None

-- how many letters a delta cuts
abbrev pub cut_of : List ℕ → Option ℕ
cut_of text = option_and_then if_cut (number_of text)
