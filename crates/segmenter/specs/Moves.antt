-- How the stack of a search moves from answer to answer (own).
use Rattle.std.specs.Prelude.{◌≡◌, List}
use Rattle.text_definitions.specs.Lines.{Line}
use Rattle.segmentation_definitions.specs.Derivations.{Step}
use Rattle.segmentation_definitions.specs.Items.{Choice}
use Rattle.segmentation_definitions.specs.Listings.{IsAbove, IsNext}
use Rattle.segmentation_definitions.specs.Answers.{IsAnswer}
use Rattle.derivation.specs.Steps.{steps_of}
use Rattle.annotated_trie.specs.Searched.{SearchedLexicon}
use Rattle.search_frames.specs.declared.cursor.Cursor.TheVariants as cursor
use Rattle.search_frames.specs.Stacks.{cursor_in}
use Rattle.search_frames.specs.declared.resumption.Resumption.{Resumption}
use Rattle.search_frames.specs.Configurations.{rules_in}
use Rattle.search_frames.specs.Stacks.{steps_in}
use Rattle.segmenter.specs.Searches.{StandsAtAnswer, cursor_of}

-- the steps in use are those of the next answer after where the old stack stands
abbrev pub HasNext : SearchedLexicon → Line → List Choice → Resumption → Resumption → Type 0
HasNext searched line choices old new =
    IsNext searched.lexicon line choices (cursor_of searched line old) (steps_of (rules_in searched) line.letters (steps_in new))

-- no answer comes after where the stack stands
abbrev pub HasNoNext : SearchedLexicon → Line → List Choice → Resumption → Type 0
HasNoNext searched line choices stack = (answer : List Step) → IsAnswer searched.lexicon line choices answer
    → IsAbove (rules_in searched) (cursor_of searched line stack) answer → ⊥

-- the frames stand at the next answer after where the old stack stands
pub record StandsAtNext (searched : SearchedLexicon) (line : Line) (choices : List Choice) (old new : Resumption) : Type 0 where
  pub answer : StandsAtAnswer searched line choices new
  pub next : HasNext searched line choices old new

-- the stack has moved to the next answer
pub record HasMoved (searched : SearchedLexicon) (line : Line) (choices : List Choice) (old new : Resumption) : Type 0 where
  pub cursor : cursor_in new ≡ cursor.At
  pub next : HasNext searched line choices old new

-- the stack has come past the last answer
pub record HasRunOut (searched : SearchedLexicon) (line : Line) (choices : List Choice) (old new : Resumption) : Type 0 where
  pub cursor : cursor_in new ≡ cursor.Past
  pub none : HasNoNext searched line choices old
