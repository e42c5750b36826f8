-- What ends a page: whether an answer is left after where the search stands (own).
use Rattle.std.specs.Prelude.{◌≡◌, ◌↔◌, ℕ, Bool, IsTrue, List, ◌++◌}
use Rattle.segmentation_definitions.specs.Derivations.{Step}
use Rattle.segmentation_definitions.specs.Answers.{IsAnswer}
use Rattle.segmentation_definitions.specs.Listings.{IsAbove}
use Rattle.segmentation_definitions.specs.PrintedAnswers.{printed_rest}
use Rattle.derivation.specs.declared.step.Step.{Step as ProgramStep}
use Rattle.search_frames.specs.declared.resumption.Resumption.{Resumption}
use Rattle.segmenter.specs.Searches.{SearchValue, StandsWhere}
use Rattle.answer_printing.specs.Pages.{HasPrinted}

-- an answer comes after where the search stands
abbrev pub HasLeft : SearchValue → Type 0
HasLeft search = (answer : List Step) × IsAnswer search.searched.lexicon search.line search.choices answer
    × IsAbove search.searched.lexicon.rules search.cursor answer

-- the line was appended that says whether an answer is left
pub record HasToldRest (search : SearchValue) (before after : List ℕ) : Type 0 where
  pub more : Bool
  pub left : IsTrue more ↔ HasLeft search
  pub line : after ≡ before ++ printed_rest more

-- so many answers after where the search stood were printed, and the line that says whether another is left; the stack is where the search
-- stood between
pub record HasKeptPage (search : SearchValue) (number count : ℕ) (before after : List ℕ) (last_before last_after : List ProgramStep)
    (many : ℕ) (stack : Resumption) : Type 0 where
  pub now : SearchValue
  pub bytes : List ℕ
  pub printed : HasPrinted search now number count before bytes last_before last_after many
  pub stands : StandsWhere now stack
  pub told : HasToldRest now bytes after
