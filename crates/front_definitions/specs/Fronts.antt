-- The fronts of answers, which are their first keys, and the fronts of a listing (own).
use Rattle.std.specs.Prelude.{◌≡◌, ◌≢◌, ℕ, ◌⊎◌, Bool, Option, Some, None, List, take, Contains}
use Rattle.std.specs.declared.cmp.Ordering.TheVariants.{Less, Greater}
use Rattle.std.specs.List.Sorted.{IsStrictlySortedBy}
use Rattle.text_definitions.specs.Lines.{Line}
use Rattle.lexicon_definitions.specs.Lexicons.{Lexicon, RuleSet}
use Rattle.segmentation_definitions.specs.Derivations.{Step}
use Rattle.segmentation_definitions.specs.Items.{Choice}
use Rattle.segmentation_definitions.specs.Answers.{IsAnswer}
use Rattle.segmentation_definitions.specs.Listings.{Key, keys_of, compare_key_lists, compare_answers}
use Rattle.list_laws.specs.Firsts.{AreAll}
use Rattle.front_definitions.specs.NextOnes.{AreNext}

-- the front of an answer: its first keys, as many as depth, or all its keys where they are fewer
abbrev pub front_of : RuleSet → ℕ → List Step → List Key
front_of rules depth answer = take depth (keys_of rules answer)

-- the answer has the front
abbrev pub HasFront : Lexicon → Line → List Choice → ℕ → List Key → List Step → Type 0
HasFront lexicon line choices depth front answer =
    IsAnswer lexicon line choices answer × (front_of lexicon.rules depth answer ≡ front)

-- the keys are the front of some answer
abbrev pub IsFront : Lexicon → Line → List Choice → ℕ → List Key → Type 0
IsFront lexicon line choices depth front = (answer : List Step) × HasFront lexicon line choices depth front answer

-- the fronts of a listing: each front of an answer, once, in the order of answers
abbrev pub AreFronts : Lexicon → Line → List Choice → ℕ → List (List Key) → Type 0
AreFronts lexicon line choices depth fronts = AreAll compare_key_lists (IsFront lexicon line choices depth) fronts

-- the front comes after the earlier one, if there is an earlier one
abbrev pub IsAfterFront : Option (List Key) → List Key → Type 0
IsAfterFront None front = Unit {0}
IsAfterFront (Some earlier) front = compare_key_lists earlier front ≡ Less

-- the front of some answer, after the earlier one
abbrev pub IsFrontAbove : Lexicon → Line → List Choice → ℕ → Option (List Key) → List Key → Type 0
IsFrontAbove lexicon line choices depth earlier front =
    IsFront lexicon line choices depth front × IsAfterFront earlier front

-- the first fronts after one, or from the first on, as many as most; more says whether one is left
abbrev pub AreNextFronts : Lexicon → Line → List Choice → ℕ → Option (List Key) → ℕ → List (List Key) → Bool → Type 0
AreNextFronts lexicon line choices depth earlier most fronts more =
    AreNext compare_key_lists (IsFrontAbove lexicon line choices depth earlier) most fronts more

-- the first answer that has the front
pub record IsFirstOfFront (lexicon : Lexicon) (line : Line) (choices : List Choice) (depth : ℕ) (front : List Key) (answer : List Step) : Type 0 where
  pub has : HasFront lexicon line choices depth front answer
  pub least : (other : List Step) → HasFront lexicon line choices depth front other → compare_answers lexicon.rules answer other ≢ Greater

-- the first answer whose front comes after the earlier one
pub record IsFirstAfter (lexicon : Lexicon) (line : Line) (choices : List Choice) (depth : ℕ) (earlier : Option (List Key)) (answer : List Step) :
    Type 0 where
  pub is_answer : IsAnswer lexicon line choices answer
  pub after : IsAfterFront earlier (front_of lexicon.rules depth answer)
  pub least : (other : List Step) → IsAnswer lexicon line choices other → IsAfterFront earlier (front_of lexicon.rules depth other)
      → compare_answers lexicon.rules answer other ≢ Greater

-- no answer has a front that comes after the earlier one
abbrev pub HasNoneAfter : Lexicon → Line → List Choice → ℕ → Option (List Key) → Type 0
HasNoneAfter lexicon line choices depth earlier =
    (answer : List Step) → IsAnswer lexicon line choices answer → IsAfterFront earlier (front_of lexicon.rules depth answer) → ⊥

-- the answer has one of these fronts
abbrev pub IsAmongFronts : Lexicon → Line → List Choice → ℕ → List (List Key) → List Step → Type 0
IsAmongFronts lexicon line choices depth fronts answer =
    IsAnswer lexicon line choices answer × Contains fronts (front_of lexicon.rules depth answer)

-- these are all fronts up to the earlier one, rising
pub record AreFrontsTo (lexicon : Lexicon) (line : Line) (choices : List Choice) (depth : ℕ) (earlier : Option (List Key)) (fronts : List (List Key)) :
    Type 0 where
  pub rising : IsStrictlySortedBy compare_key_lists fronts
  pub only : (front : List Key) → Contains fronts front → IsFront lexicon line choices depth front
  pub complete : (front : List Key) → IsFront lexicon line choices depth front → Contains fronts front ⊎ IsAfterFront earlier front
  pub below : (front later : List Key) → Contains fronts front → IsAfterFront earlier later → compare_key_lists front later ≡ Less
