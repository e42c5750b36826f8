-- A line of text: its letters, and the places of its blanks (own).
use Rattle.std.specs.Prelude.{ℕ, ◌<◌, ◌≤◌, List, length, All}
use Rattle.std.specs.List.Sorted.{IsStrictlyIncreasing}
use Rattle.text_definitions.specs.declared.limits.TheConstants.{MOST_LINE_LETTERS}
use Rattle.text_definitions.specs.Words.{IsWord}

-- a word with a list of blank places; a blank at b stands between the letters b - 1 and b, counted from 0
pub record Line : Type 0 where
  pub letters : List ℕ
  pub blanks : List ℕ

-- a line has some letters, but not too many, and its blank places rise and lie strictly inside
pub record IsLine (line : Line) : Type 0 where
  pub word : IsWord line.letters
  pub not_empty : 0 < length line.letters
  pub within_limit : length line.letters ≤ MOST_LINE_LETTERS
  pub rising : IsStrictlyIncreasing line.blanks
  pub inside : All (λ b. (0 < b) × (b < length line.letters)) line.blanks
