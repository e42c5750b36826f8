-- Nodes that are marked.
use Rattle.std.specs.Prelude.{◌≡◌, ℕ, Bool, true, false, List, slice_index_or, Contains}

-- the node with this number is marked
abbrev pub IsMarked : List Bool → ℕ → Type 0
IsMarked marks node = slice_index_or marks node false ≡ true

-- one of these children is the node
abbrev pub LeadTo : List (ℕ × ℕ) → ℕ → Type 0
LeadTo children node = (letter : ℕ) × Contains children (letter, node)
