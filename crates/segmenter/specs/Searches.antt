-- What contracts see of a search: what it searches, and where it stands in the listing (own).
use Rattle.std.specs.Prelude.{◌≡◌, ◌≢◌, ℕ, ◌*◌, ◌<◌, ◌≤◌, Option, Some, None, List, [], ◌∷◌, length, take}
use Rattle.std.specs.declared.cmp.Ordering.TheVariants.{Greater}
use Rattle.text_definitions.specs.Lines.{Line, IsLine}
use Rattle.segmentation_definitions.specs.Derivations.{Step}
use Rattle.segmentation_definitions.specs.Items.{Choice}
use Rattle.segmentation_definitions.specs.Listings.{Key, keys_of, compare_answers, Cursor, BeforeFirst, AtAnswer, PastLast, IsAbove, IsNext}
use Rattle.segmentation_definitions.specs.Answers.{IsAnswer}
use Rattle.listing_laws.specs.Ways.{IsPath}
use Rattle.derivation.specs.Steps.{steps_of, StandIn}
use Rattle.derivation.specs.declared.step.Step.{Step as ProgramStep}
use Rattle.annotated_trie.specs.Searched.{SearchedLexicon}
use Rattle.search_frames.specs.declared.cursor.Cursor.{Cursor as StackCursor}
use Rattle.search_frames.specs.declared.cursor.Cursor.TheVariants as cursor
use Rattle.search_frames.specs.declared.resumption.Resumption.{Resumption}
use Rattle.search_frames.specs.Stacks.{IsStack, cursor_in, room_of, steps_in}
use Rattle.search_frames.specs.Configurations.{rules_in, opening, ways_in}
use Rattle.segmenter.specs.Chains.{AreFrames}

-- the lexicon, the line, the choices, and the cursor in the listing of the line's answers
pub record SearchValue : Type 0 where
  pub searched : SearchedLexicon
  pub line : Line
  pub choices : List Choice
  pub cursor : Cursor

-- where the stack stands in the listing
abbrev pub cursor_at : SearchedLexicon → Line → Resumption → StackCursor → Cursor
cursor_at searched line stack cursor.Before = BeforeFirst
cursor_at searched line stack cursor.At = AtAnswer (steps_of (rules_in searched) line.letters (steps_in stack))
cursor_at searched line stack cursor.Past = PastLast

abbrev pub cursor_of : SearchedLexicon → Line → Resumption → Cursor
cursor_of searched line stack = cursor_at searched line stack (cursor_in stack)

-- the stack stands at an answer: its frames stand along the keys of a path
pub record StandsAtAnswer (searched : SearchedLexicon) (line : Line) (choices : List Choice) (stack : Resumption) : Type 0 where
  pub keys : List Key
  pub frames : AreFrames searched line stack 0 opening keys
  pub path : IsPath (ways_in searched line choices) opening keys

-- the stack is one of a search over the lexicon, the line and the choices
pub record IsStackOf (searched : SearchedLexicon) (line : Line) (choices : List Choice) (stack : Resumption) : Type 0 where
  pub is_line : IsLine line
  pub is_stack : IsStack stack
  pub room : 2 * length line.letters ≤ room_of stack
  pub answer : cursor_in stack ≡ cursor.At → StandsAtAnswer searched line choices stack

-- the search has moved to the next answer after where it stood
pub record MovedOn (old new : SearchValue) : Type 0 where
  pub answer : List Step
  pub is : new ≡ record { searched = old.searched; line = old.line; choices = old.choices; cursor = AtAnswer answer }
  pub next : IsNext old.searched.lexicon old.line old.choices old.cursor answer

-- the search has come past the last answer: no answer was left
pub record HasEnded (old new : SearchValue) : Type 0 where
  pub is : new ≡ record { searched = old.searched; line = old.line; choices = old.choices; cursor = PastLast }
  pub none : (answer : List Step) → IsAnswer old.searched.lexicon old.line old.choices answer
      → IsAbove old.searched.lexicon.rules old.cursor answer → ⊥

-- these are the program's steps of the answer at which the search stands, or it stands at no answer
abbrev pub IsCurrent : SearchValue → Option (List ProgramStep) → Type 0
IsCurrent search None = (answer : List Step) → search.cursor ≡ AtAnswer answer → ⊥
IsCurrent search (Some steps) =
    (search.cursor ≡ AtAnswer (steps_of search.searched.lexicon.rules search.line.letters steps))
    × StandIn search.searched.lexicon.rules search.line.letters steps × (0 < length steps)

-- the stack is one of the search's lexicon, line and choices, and stands where the search stands
pub record StandsWhere (search : SearchValue) (stack : Resumption) : Type 0 where
  pub is_stack : IsStackOf search.searched search.line search.choices stack
  pub cursor : cursor_of search.searched search.line stack ≡ search.cursor

-- the answer comes after the one at which the search stands, and has other first keys, as many as depth
abbrev pub IsPastKeys : SearchValue → ℕ → List Step → Type 0
IsPastKeys search depth answer =
    IsAbove search.searched.lexicon.rules search.cursor answer
    × ((here : List Step) → search.cursor ≡ AtAnswer here
    → take depth (keys_of search.searched.lexicon.rules answer) ≢ take depth (keys_of search.searched.lexicon.rules here))

-- the search has moved to the least answer that comes after it and has other first keys
pub record Skipped (depth : ℕ) (old new : SearchValue) : Type 0 where
  pub answer : List Step
  pub is : new ≡ record { searched = old.searched; line = old.line; choices = old.choices; cursor = AtAnswer answer }
  pub is_answer : IsAnswer old.searched.lexicon old.line old.choices answer
  pub past : IsPastKeys old depth answer
  pub least : (other : List Step) → IsAnswer old.searched.lexicon old.line old.choices other → IsPastKeys old depth other
      → compare_answers old.searched.lexicon.rules answer other ≢ Greater

-- the search has come past the last answer: no answer that comes after it has other first keys
pub record HasSkippedAll (depth : ℕ) (old new : SearchValue) : Type 0 where
  pub is : new ≡ record { searched = old.searched; line = old.line; choices = old.choices; cursor = PastLast }
  pub none : (answer : List Step) → IsAnswer old.searched.lexicon old.line old.choices answer → IsPastKeys old depth answer → ⊥

-- the keys are those of no answer
abbrev pub AreNoKeys : SearchedLexicon → Line → List Choice → List Key → Type 0
AreNoKeys searched line choices keys =
    (answer : List Step) → IsAnswer searched.lexicon line choices answer → keys_of searched.lexicon.rules answer ≡ keys → ⊥

-- the search stands at the answer with these keys, or before the first where there are no keys
abbrev pub StandsAtKeys : SearchValue → List Key → Type 0
StandsAtKeys search [] = search.cursor ≡ BeforeFirst
StandsAtKeys search (key ∷ keys) =
    (answer : List Step) × (search.cursor ≡ AtAnswer answer) × IsAnswer search.searched.lexicon search.line search.choices answer
    × (keys_of search.searched.lexicon.rules answer ≡ key ∷ keys)
