-- One turn of printing: the search moves to the next answer, whose line is appended, or past the last answer (own).
use Rattle.std.specs.Prelude.{◌≡◌, ℕ, Bool, true, false, List, ◌++◌}
use Rattle.segmentation_definitions.specs.PrintedAnswers.{printed_answer, output_line}
use Rattle.segmenter.specs.Searches.{SearchValue, MovedOn, HasEnded}

-- the search has moved to the next answer, and its line with this number was appended
pub record HasPrintedNext (old new : SearchValue) (number : ℕ) (before after : List ℕ) : Type 0 where
  pub moved : MovedOn old new
  pub line : after ≡ before ++ output_line (printed_answer old.searched.lexicon.rules number moved.answer)

-- it has come past the last answer, and nothing was appended
pub record HasPrintedNone (old new : SearchValue) (before after : List ℕ) : Type 0 where
  pub ended : HasEnded old new
  pub nothing : after ≡ before

-- it has moved to the next answer, or no answer was left
abbrev pub HasTurned : SearchValue → SearchValue → ℕ → List ℕ → List ℕ → Bool → Type 0
HasTurned old new number before after true = HasPrintedNext old new number before after
HasTurned old new number before after false = HasPrintedNone old new before after
