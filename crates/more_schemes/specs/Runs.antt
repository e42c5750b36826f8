-- The length of the run at the front of a text.
use Rattle.std.specs.Prelude.{ℕ, suc, List, [], ◌∷◌, Option, Some, None}
use Rattle.conversion_definitions.specs.Marks.{Mark, first_mark}

-- one byte more where no mark begins the text
abbrev pub more_length : Option (ℕ × List ℕ) → ℕ → ℕ
more_length (Some found) rest = 0
more_length None rest = suc rest

-- the number of bytes before the first mark
abbrev pub run_length : List Mark → List ℕ → ℕ
run_length marks [] = 0
run_length marks (byte ∷ text) = more_length (first_mark marks (byte ∷ text)) (run_length marks text)
