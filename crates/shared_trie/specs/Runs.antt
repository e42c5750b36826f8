-- What a node stands for among the forms of a phase.
use Rattle.std.specs.Prelude.{◌≡◌, ◌≢◌, ℕ, ◌<◌, List, [], ◌++◌, length, Contains}
use Rattle.lexicon_definitions.specs.Analyses.{Analysis}
use Rattle.lexicon_definitions.specs.Deltas.{Delta, IsDelta}
use Rattle.lexicon_definitions.specs.Lexicons.{Form}
use Rattle.lexicon_definitions.specs.Tries.{Row, IsNodeAfter, row_of, empty_row}

-- the word begins with the front
abbrev pub HasFront : List ℕ → List ℕ → Type 0
HasFront front word = (rest : List ℕ) × (word ≡ front ++ rest)

-- the node is there, stands for what follows the front in the forms, and stands for something
pub record IsNodeFor (rows : List Row) (forms : List Form) (front : List ℕ) (node : ℕ) : Type 0 where
  pub there : node < length rows
  pub not_empty : row_of rows node ≢ empty_row
  pub after : IsNodeAfter rows forms front node

-- the node is there, and stands for the forms
pub record IsRootFor (rows : List Row) (forms : List Form) (root : ℕ) : Type 0 where
  pub there : root < length rows
  pub after : IsNodeAfter rows forms [] root

-- the delta is that of one of the analyses of the form
pub record IsDeltaAmong (form : List ℕ) (analyses : List Analysis) (delta : Delta) : Type 0 where
  pub analysis : Analysis
  pub is_analyzed : Contains analyses analysis
  pub is_delta : IsDelta form analysis delta
