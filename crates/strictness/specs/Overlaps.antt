-- The first overlaps of a lexicon.
use Rattle.std.specs.Prelude.{◌≡◌, ℕ, ◌≤◌, ◌⊎◌, List, length, Contains}
use Rattle.std.specs.List.Sorted.{IsStrictlySortedBy}
use Rattle.lexicon_definitions.specs.Lexicons.{Lexicon}
use Rattle.segmentation_definitions.specs.Overlaps.{Overlap, IsOverlap, compare_overlaps}
use Rattle.list_laws.specs.Firsts.{ComesAfter}

-- these are the first overlaps of the lexicon, rising, as many as most, and all where there are fewer: an overlap that is not
-- among them comes after that many
pub record AreFirstOverlaps (lexicon : Lexicon) (most : ℕ) (overlaps : List Overlap) : Type 0 where
  pub rising : IsStrictlySortedBy compare_overlaps overlaps
  pub only : (overlap : Overlap) → Contains overlaps overlap → IsOverlap lexicon overlap
  pub at_most : length overlaps ≤ most
  pub first : (overlap : Overlap) → IsOverlap lexicon overlap
      → Contains overlaps overlap ⊎ ((length overlaps ≡ most) × ComesAfter compare_overlaps overlaps overlap)
