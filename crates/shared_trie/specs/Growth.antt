-- What adding a node leaves of a trie.
use Rattle.std.specs.Prelude.{◌≡◌, ℕ, ◌<◌, ◌≤◌, List, ◌++◌, length}
use Rattle.lexicon_definitions.specs.Tries.{Row, row_of}

-- rows were added after the old ones, but not more than this many
pub record Grows (most : ℕ) (old new : List Row) : Type 0 where
  pub more : List Row
  pub is : new ≡ old ++ more
  pub few : length more ≤ most

-- the node is there, and has this row
pub record HasRow (rows : List Row) (row : Row) (node : ℕ) : Type 0 where
  pub there : node < length rows
  pub is : row_of rows node ≡ row
