-- Where parts begin that are to be listed: each is told by the keys of the first answer of its front (own).
use Rattle.std.specs.Prelude.{◌≡◌, ℕ, ◌<◌, ◌≤◌, true, Option, List, ◌++◌, length, take, map, All}
use Rattle.text_definitions.specs.Lines.{Line}
use Rattle.segmentation_definitions.specs.Derivations.{Step}
use Rattle.segmentation_definitions.specs.Items.{Choice}
use Rattle.segmentation_definitions.specs.Listings.{Key, keys_of, AtAnswer}
use Rattle.front_definitions.specs.Fronts.{IsFirstOfFront}
use Rattle.derivation.specs.Steps.{keys_meant}
use Rattle.annotated_trie.specs.Searched.{SearchedLexicon}
use Rattle.segmenter.specs.Searches.{SearchValue}
use Rattle.search_split.specs.declared.start.Start.{Start}
use Rattle.search_split.specs.declared.start.Starts.{Starts}
use Rattle.search_split.specs.NextFronts.{searching, IsUnderWay}

-- the front of the part that begins there
abbrev pub front_from : ℕ → Start → List Key
front_from depth start = take depth (keys_meant start.keys.items)

-- the keys are those of the first answer that has the front
pub record IsStart (searched : SearchedLexicon) (line : Line) (choices : List Choice) (depth : ℕ) (start : Start) : Type 0 where
  pub some : 0 < length start.keys.items
  pub answer : List Step
  pub keys : keys_of searched.lexicon.rules answer ≡ keys_meant start.keys.items
  pub first : IsFirstOfFront searched.lexicon line choices depth (front_from depth start) answer

-- the search stands at the first answer of the part that begins there
pub record StandsAtStart (searched : SearchedLexicon) (line : Line) (choices : List Choice) (depth : ℕ) (start : Start) (search : SearchValue) : Type 0 where
  pub answer : List Step
  pub is : search ≡ searching searched line choices (AtAnswer answer)
  pub first : IsFirstOfFront searched.lexicon line choices depth (front_from depth start) answer

-- the parts of the next fronts begin there, as many as most or all that are left, and the search has gone past them
pub record HasTaken (searched : SearchedLexicon) (line : Line) (choices : List Choice) (depth : ℕ) (earlier : Option (List Key)) (fronts : List (List Key))
    (most : ℕ) (starts : Starts) (new : SearchValue) : Type 0 where
  pub under : IsUnderWay searched line choices depth earlier (fronts ++ map (front_from depth) starts.list.items) new starts.more
  pub each : All (IsStart searched line choices depth) starts.list.items
  pub at_most : length starts.list.items ≤ most
  pub full : starts.more ≡ true → length starts.list.items ≡ most
