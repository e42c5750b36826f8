-- The heights of all nodes, by their numbers.
use Rattle.std.specs.Prelude.{◌≡◌, ℕ, ◌+◌, ◌<◌, ◌≤◌, ◌⊎◌, List, length, slice_index, All, Contains}
use Rattle.lexicon_definitions.specs.Tries.{Row, IsHeight}

-- each node's height stands at its number, and is not above it
pub record AreHeights (rows : List Row) (heights : List ℕ) : Type 0 where
  pub count : length heights ≡ length rows
  pub each : (node : ℕ) → node < length rows → IsHeight rows node (slice_index heights node)
  pub low : (node : ℕ) → node < length rows → slice_index heights node ≤ node

-- the height is above those of these children, and one above the greatest, or 0 where there are no children
pub record IsHeightAbove (heights : List ℕ) (children : List (ℕ × ℕ)) (height : ℕ) : Type 0 where
  pub above : All (λ (child : ℕ × ℕ). slice_index heights child.1 + 1 ≤ height) children
  pub greatest : (height ≡ 0) ⊎ ((child : ℕ × ℕ) × Contains children child × (slice_index heights child.1 + 1 ≡ height))
