-- Deltas by numbers, and lists of them.
use Rattle.std.specs.Prelude.{◌≡◌, ℕ, ◌<◌, ◌≤◌, ◌↔◌, ◌++◌, List, [], length, map, slice_index_or, All, Contains}
use Rattle.std.specs.List.Sorted.{IsStrictlySortedBy}
use Rattle.lexicon_definitions.specs.Deltas.{Delta, compare_deltas}

-- the delta with this number, counted from 0
abbrev pub delta_of : List Delta → ℕ → Delta
delta_of deltas number = slice_index_or deltas number (record { cut = 0; append = []; tag = [] })

-- deltas were added after the old ones, but not more than one
pub record AddsDelta (old new : List Delta) : Type 0 where
  pub more : List Delta
  pub is : new ≡ old ++ more
  pub few : length more ≤ 1

-- the list has just the deltas with these numbers, rising
pub record IsListFor (deltas : List Delta) (numbers : List ℕ) (list : List Delta) : Type 0 where
  pub within : All (λ number. number < length deltas) numbers
  pub rising : IsStrictlySortedBy compare_deltas list
  pub among : (delta : Delta) → Contains list delta ↔ Contains (map (delta_of deltas) numbers) delta
