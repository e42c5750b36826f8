-- The suffixes of the `u` of rules, by numbers: 0 is the one without letters, and `n + 1` is the one at place `n` of a list, which
-- tells its first letter and the number of the suffix after this letter (own).
use Rattle.std.specs.Prelude.{◌≡◌, ℕ, ◌+◌, ◌<◌, ◌≤◌, ◌↔◌, Some, List, [], ◌∷◌, ◌++◌, length, slice_get, slice_index, slice_index_or, Contains}
use Rattle.std.specs.Global.{Vec}
use Rattle.std.specs.Ordering.{nat_cmp}
use Rattle.std.specs.List.Sorted.{IsStrictlySortedBy}
use Rattle.lexicon_definitions.specs.Rules.{Rule}
use Rattle.lexicon_definitions.specs.Tries.{Row}
use Rattle.annotated_trie.specs.Choices.{LeadsToEnd}
use Rattle.annotated_trie.specs.Views.{list_at}

-- the number is that of the suffix that begins with the letter and goes on as the other number says
pub record IsLonger (suffixes : List (ℕ × ℕ)) (letter rest number : ℕ) : Type 0 where
  pub place : ℕ
  pub follows : number ≡ place + 1
  pub stored : slice_get suffixes place ≡ Some (letter, rest)

-- the number stands for the word
abbrev pub StandsFor : List (ℕ × ℕ) → ℕ → List ℕ → Type 0
StandsFor suffixes number [] = number ≡ 0
StandsFor suffixes number (letter ∷ word) =
    (rest : ℕ) × IsLonger suffixes letter rest number × StandsFor suffixes rest word

-- suffixes were added after the old ones, but not more than this many
pub record AddsSuffixes (most : ℕ) (old new : List (ℕ × ℕ)) : Type 0 where
  pub more : List (ℕ × ℕ)
  pub is : new ≡ old ++ more
  pub few : length more ≤ most

-- each rule's u has its number here
pub record AreNumbers (suffixes : List (ℕ × ℕ)) (rules : List Rule) (numbers : List ℕ) : Type 0 where
  pub count : length numbers ≡ length rules
  pub low : (k : ℕ) → k < length numbers → slice_index numbers k ≤ length suffixes
  pub each : (k : ℕ) (none : Rule) → k < length numbers → StandsFor suffixes (slice_index numbers k) (slice_index_or rules k none).u

-- the list has just the places, counted from 1, at which the number stands
abbrev pub ArePlacesOf : List ℕ → ℕ → List ℕ → Type 0
ArePlacesOf numbers number places =
    (place : ℕ) → Contains places place ↔ ((k : ℕ) × (place ≡ k + 1) × (k < length numbers) × (slice_index numbers k ≡ number))

-- for each number the list of its places, rising
pub record AreGroups (numbers : List ℕ) (groups : List (Vec ℕ)) : Type 0 where
  pub each : (number : ℕ) → ArePlacesOf numbers number (list_at groups number)
  pub rising : (number : ℕ) → IsStrictlySortedBy nat_cmp (list_at groups number)

-- these are the numbers of the suffixes that lead from the node to the end of a form
abbrev pub AreSuffixesAt : List (ℕ × ℕ) → List Row → ℕ → List ℕ → Type 0
AreSuffixesAt suffixes rows node numbers =
    (number : ℕ) (word : List ℕ) → StandsFor suffixes number word → Contains numbers number ↔ LeadsToEnd rows node word

-- each of the first nodes has the place of the numbers of its suffixes, and there are no more lists than nodes
pub record AreSetsAt (suffixes : List (ℕ × ℕ)) (rows : List Row) (nodes : ℕ) (sets : List (Vec ℕ)) (places : List ℕ) : Type 0 where
  pub count : length places ≡ nodes
  pub fewer : length sets ≤ nodes
  pub within : (node : ℕ) → node < nodes → slice_index places node < length sets
  pub each : (node : ℕ) → node < nodes → AreSuffixesAt suffixes rows node (list_at sets (slice_index places node))

-- one node more has its place, where these numbers stand, and at most one list was added
pub record AddsNode (old_sets new_sets : List (Vec ℕ)) (old_places new_places numbers : List ℕ) : Type 0 where
  pub more : List (Vec ℕ)
  pub sets : new_sets ≡ old_sets ++ more
  pub few : length more ≤ 1
  pub place : ℕ
  pub places : new_places ≡ old_places ++ place ∷ []
  pub there : place < length new_sets
  pub has : list_at new_sets place ≡ numbers

-- one of these numbers goes on with the letter to the number
pub record GoesOn (suffixes : List (ℕ × ℕ)) (letter : ℕ) (rests : List ℕ) (number : ℕ) : Type 0 where
  pub rest : ℕ
  pub among : Contains rests rest
  pub longer : IsLonger suffixes letter rest number

-- one of these children has a number that goes on with the child's letter to the number
pub record GoesOnFrom (suffixes : List (ℕ × ℕ)) (sets : List (Vec ℕ)) (places : List ℕ) (children : List (ℕ × ℕ)) (number : ℕ) : Type 0 where
  pub child : ℕ × ℕ
  pub is_child : Contains children child
  pub goes_on : GoesOn suffixes child.0 (list_at sets (slice_index places child.1)) number

-- the place is in the group of one of these numbers
pub record IsInGroups (groups : List (Vec ℕ)) (numbers : List ℕ) (place : ℕ) : Type 0 where
  pub number : ℕ
  pub among : Contains numbers number
  pub has : Contains (list_at groups number) place

-- the list has just what the groups of these numbers have, rising
pub record IsListFrom (groups : List (Vec ℕ)) (numbers list : List ℕ) : Type 0 where
  pub rising : IsStrictlySortedBy nat_cmp list
  pub members : (place : ℕ) → Contains list place ↔ IsInGroups groups numbers place

-- for each set of numbers the list of what their groups have
pub record AreListsFrom (groups sets lists : List (Vec ℕ)) : Type 0 where
  pub count : length lists ≡ length sets
  pub each : (place : ℕ) → place < length sets → IsListFrom groups (list_at sets place) (list_at lists place)
