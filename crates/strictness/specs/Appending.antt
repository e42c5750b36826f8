-- How a list of the first overlaps grows.
use Rattle.std.specs.Prelude.{◌≡◌, ◌≤◌, ◌⊎◌, List, [], ◌∷◌, ◌++◌, length, Contains}
use Rattle.std.specs.List.Sorted.{IsStrictlySortedBy}
use Rattle.list_laws.specs.Firsts.{ComesAfter}
use Rattle.segmentation_definitions.specs.Overlaps.{Overlap, compare_overlaps}
use Rattle.strictness.specs.declared.found.Found.{Found}

-- no more overlaps are wanted
abbrev pub IsFull : Found → Type 0
IsFull found = length found.overlaps.items ≡ found.most

-- the overlap is appended where more are wanted, and else nothing changes
pub record Takes (overlap : Overlap) (old new : Found) : Type 0 where
  pub most : new.most ≡ old.most
  pub room : (IsFull old → ⊥) → new.overlaps.items ≡ old.overlaps.items ++ overlap ∷ []
  pub full : IsFull old → new.overlaps.items ≡ old.overlaps.items

-- the first overlaps that have the property are appended, rising, as many as are wanted, and all where there are fewer
pub record AppendsFirst (P : Overlap → Type 0) (old new : Found) : Type 0 where
  pub added : List Overlap
  pub is : new.overlaps.items ≡ old.overlaps.items ++ added
  pub most : new.most ≡ old.most
  pub rising : IsStrictlySortedBy compare_overlaps added
  pub only : (overlap : Overlap) → Contains added overlap → P overlap
  pub at_most : length old.overlaps.items ≤ old.most → length new.overlaps.items ≤ new.most
  pub first : (overlap : Overlap) → P overlap → Contains added overlap ⊎ (IsFull new × ComesAfter compare_overlaps added overlap)
