-- Words are lists of letters, compared letter by letter (after Huet 2005).
use Rattle.std.specs.Prelude.{ℕ, List, All}
use Rattle.std.specs.declared.cmp.Ordering.{Ordering}
use Rattle.std.specs.Ordering.{nat_cmp}
use Rattle.std.specs.Cmp.Lexicographic.{slice_cmp}
use Rattle.text_definitions.specs.Letters.{IsLetter}

-- a word is a list of letters
abbrev pub IsWord : List ℕ → Type 0
IsWord letters = All IsLetter letters

-- words are compared letter by letter by code, and a proper prefix is smaller
abbrev pub compare_words : List ℕ → List ℕ → Ordering
compare_words left right = slice_cmp nat_cmp left right
