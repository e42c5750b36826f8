-- How a search goes from front to front (own).
use Rattle.std.specs.Prelude.{◌≡◌, ℕ, Bool, true, false, Option, Some, None, List}
use Rattle.text_definitions.specs.Lines.{Line}
use Rattle.lexicon_definitions.specs.Lexicons.{RuleSet}
use Rattle.segmentation_definitions.specs.Derivations.{Step}
use Rattle.segmentation_definitions.specs.Items.{Choice}
use Rattle.segmentation_definitions.specs.Listings.{Key, Cursor, BeforeFirst, AtAnswer, PastLast, compare_key_lists}
use Rattle.list_laws.specs.Firsts.{AreFirst}
use Rattle.front_definitions.specs.Fronts.{front_of, IsFrontAbove, IsFirstOfFront, IsFirstAfter, HasNoneAfter}
use Rattle.front_definitions.proofs.FoundFronts.{AreFrontsBefore}
use Rattle.annotated_trie.specs.Searched.{SearchedLexicon}
use Rattle.segmenter.specs.Searches.{SearchValue}

-- the front of the answer at which the cursor stands, or none before the first answer
abbrev pub IsFrontAt : RuleSet → ℕ → Cursor → Option (List Key) → Type 0
IsFrontAt rules depth BeforeFirst front = front ≡ None
IsFrontAt rules depth (AtAnswer answer) front = front ≡ Some (front_of rules depth answer)
IsFrontAt rules depth PastLast front = ⊥

-- the search has moved to the first answer whose front comes after that of the one where it stood
pub record HasNextFront (depth : ℕ) (old new : SearchValue) : Type 0 where
  pub answer : List Step
  pub is : new ≡ record { searched = old.searched; line = old.line; choices = old.choices; cursor = AtAnswer answer }
  pub first : (front : Option (List Key)) → IsFrontAt old.searched.lexicon.rules depth old.cursor front
      → IsFirstAfter old.searched.lexicon old.line old.choices depth front answer

-- no answer has a front that comes after that of the one where the search stood
abbrev pub HasNoNextFront : ℕ → SearchValue → Type 0
HasNoNextFront depth old = (front : Option (List Key)) → IsFrontAt old.searched.lexicon.rules depth old.cursor front
    → HasNoneAfter old.searched.lexicon old.line old.choices depth front

-- a search for the answers of the line that stands there
abbrev pub searching : SearchedLexicon → Line → List Choice → Cursor → SearchValue
searching searched line choices cursor = record { searched = searched; line = line; choices = choices; cursor = cursor }

-- the search stands at the first answer of the front right after these, which are the first ones after the earlier one
pub record StandsAfter (searched : SearchedLexicon) (line : Line) (choices : List Choice) (depth : ℕ) (earlier : Option (List Key))
    (fronts : List (List Key)) (search : SearchValue) : Type 0 where
  pub answer : List Step
  pub is : search ≡ searching searched line choices (AtAnswer answer)
  pub first : IsFirstOfFront searched.lexicon line choices depth (front_of searched.lexicon.rules depth answer) answer
  pub before : AreFrontsBefore searched.lexicon line choices depth earlier fronts (front_of searched.lexicon.rules depth answer)

-- it does, where a front was found; else these are all fronts after the earlier one
abbrev pub IsUnderWay : SearchedLexicon → Line → List Choice → ℕ → Option (List Key) → List (List Key) → SearchValue → Bool → Type 0
IsUnderWay searched line choices depth earlier fronts search true = StandsAfter searched line choices depth earlier fronts search
IsUnderWay searched line choices depth earlier fronts search false =
    AreFirst compare_key_lists (IsFrontAbove searched.lexicon line choices depth earlier) fronts false
