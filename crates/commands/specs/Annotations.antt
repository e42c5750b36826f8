-- What `annotate` tells of a line that has several answers under its choices.
use Rattle.std.specs.Prelude.{◌≡◌, ℕ, List}
use Rattle.text_definitions.specs.Lines.{Line}
use Rattle.lexicon_definitions.specs.Lexicons.{Lexicon}
use Rattle.segmentation_definitions.specs.Derivations.{Step}
use Rattle.segmentation_definitions.specs.Items.{Choice}
use Rattle.segmentation_definitions.specs.Listings.{BeforeFirst, AtAnswer, IsNext, keys_of}
use Rattle.run_definitions.specs.Ends as ends
use Rattle.run_definitions.specs.AnnotateOutcomes.{printed_several}
use Rattle.commands.specs.declared.status.Status.{Status}
use Rattle.commands.specs.Faults.{Tells}

-- the output is that of the first two answers, where there are two
abbrev pub IsPrintedSeveral : Lexicon → Line → List Choice → List ℕ → Type 0
IsPrintedSeveral lexicon line choices output =
    (first second : List Step) → IsNext lexicon line choices BeforeFirst first → IsNext lexicon line choices (AtAnswer first) second
    → output ≡ printed_several lexicon.rules first second

-- there are several answers; the output is that of the first two, and the status tells their keys
pub record TellsSeveral (lexicon : Lexicon) (line : Line) (choices : List Choice) (status : Status) (output : List ℕ) : Type 0 where
  pub first : List Step
  pub second : List Step
  pub is_first : IsNext lexicon line choices BeforeFirst first
  pub is_second : IsNext lexicon line choices (AtAnswer first) second
  pub printed : output ≡ printed_several lexicon.rules first second
  pub told : Tells status (ends.Several (keys_of lexicon.rules first) (keys_of lexicon.rules second))
