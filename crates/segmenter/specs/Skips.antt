-- How the stack of a search goes past the first keys of an answer (own).
use Rattle.std.specs.Prelude.{◌≡◌, ◌≢◌, ℕ, List}
use Rattle.std.specs.declared.cmp.Ordering.TheVariants.{Greater}
use Rattle.text_definitions.specs.Lines.{Line}
use Rattle.segmentation_definitions.specs.Derivations.{Step}
use Rattle.segmentation_definitions.specs.Items.{Choice}
use Rattle.segmentation_definitions.specs.Listings.{compare_answers}
use Rattle.segmentation_definitions.specs.Answers.{IsAnswer}
use Rattle.derivation.specs.Steps.{steps_of}
use Rattle.annotated_trie.specs.Searched.{SearchedLexicon}
use Rattle.search_frames.specs.declared.cursor.Cursor.TheVariants as cursor
use Rattle.search_frames.specs.Stacks.{cursor_in}
use Rattle.search_frames.specs.declared.resumption.Resumption.{Resumption}
use Rattle.search_frames.specs.Configurations.{rules_in}
use Rattle.search_frames.specs.Stacks.{steps_in}
use Rattle.segmenter.specs.Searches.{SearchValue, StandsAtAnswer, IsPastKeys, cursor_of}

-- what a search with this stack is seen as
abbrev pub value_of : SearchedLexicon → Line → List Choice → Resumption → SearchValue
value_of searched line choices stack =
    record { searched = searched; line = line; choices = choices; cursor = cursor_of searched line stack }

-- the least answer that comes after the one at which the search stands and has other first keys, as many as depth
pub record IsLeastPast (depth : ℕ) (search : SearchValue) (answer : List Step) : Type 0 where
  pub is_answer : IsAnswer search.searched.lexicon search.line search.choices answer
  pub past : IsPastKeys search depth answer
  pub least : (other : List Step) → IsAnswer search.searched.lexicon search.line search.choices other → IsPastKeys search depth other
      → compare_answers search.searched.lexicon.rules answer other ≢ Greater

-- no answer comes after the one at which the search stands and has other first keys
abbrev pub HasNonePast : ℕ → SearchValue → Type 0
HasNonePast depth search = (answer : List Step) → IsAnswer search.searched.lexicon search.line search.choices answer
    → IsPastKeys search depth answer → ⊥

-- the steps in use are those of the least answer that is past the first keys of the one at which the old stack stands
abbrev pub HasLeastPast : SearchedLexicon → Line → List Choice → ℕ → Resumption → Resumption → Type 0
HasLeastPast searched line choices depth old new =
    IsLeastPast depth (value_of searched line choices old) (steps_of (rules_in searched) line.letters (steps_in new))

-- the frames stand at this answer
pub record StandsPast (searched : SearchedLexicon) (line : Line) (choices : List Choice) (depth : ℕ) (old new : Resumption) : Type 0 where
  pub answer : StandsAtAnswer searched line choices new
  pub least : HasLeastPast searched line choices depth old new

-- the stack has moved to this answer
pub record HasSkipped (searched : SearchedLexicon) (line : Line) (choices : List Choice) (depth : ℕ) (old new : Resumption) : Type 0 where
  pub cursor : cursor_in new ≡ cursor.At
  pub least : HasLeastPast searched line choices depth old new

-- the stack has come past the last answer, since no answer is past these keys
pub record HasSkippedOut (searched : SearchedLexicon) (line : Line) (choices : List Choice) (depth : ℕ) (old new : Resumption) : Type 0 where
  pub cursor : cursor_in new ≡ cursor.Past
  pub none : HasNonePast depth (value_of searched line choices old)
