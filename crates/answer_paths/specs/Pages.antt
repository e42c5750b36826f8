-- The answers that a search has found from a cursor on, one after another (own).
use Rattle.std.specs.Prelude.{◌⊎◌, List, Contains}
use Rattle.std.specs.List.Sorted.{IsStrictlySortedBy}
use Rattle.text_definitions.specs.Lines.{Line}
use Rattle.lexicon_definitions.specs.Lexicons.{Lexicon}
use Rattle.segmentation_definitions.specs.Derivations.{Step}
use Rattle.segmentation_definitions.specs.Items.{Choice}
use Rattle.segmentation_definitions.specs.Answers.{IsAnswer}
use Rattle.segmentation_definitions.specs.Listings.{compare_answers, Cursor, IsAbove, ComesAfter}

-- these are the first answers above the cursor, rising: each other one above it comes after them
pub record AreFirstAnswers (lexicon : Lexicon) (line : Line) (choices : List Choice) (cursor : Cursor) (answers : List (List Step)) : Type 0 where
  pub rising : IsStrictlySortedBy (compare_answers lexicon.rules) answers
  pub only_answers : (steps : List Step) → Contains answers steps → IsAnswer lexicon line choices steps
  pub only_above : (steps : List Step) → Contains answers steps → IsAbove lexicon.rules cursor steps
  pub others : (steps : List Step) → IsAnswer lexicon line choices steps → IsAbove lexicon.rules cursor steps
      → Contains answers steps ⊎ ComesAfter lexicon.rules answers steps
