-- A trie that grows row by row, packed, with the hash and the height of each row.
use Rattle.std.specs.Prelude.{◌≡◌, ℕ, ◌*◌, ◌<◌, ◌≤◌, ◌^◌, List, [], ◌∷◌, ◌++◌, length, map, slice_index_or}
use Rattle.std.specs.Global.{Vec}
use Rattle.form_tags.specs.declared.delta.Delta.{Delta}
use Rattle.form_tags.specs.Analyses.{text_delta}
use Rattle.lexicon_definitions.specs.Deltas.{Delta as TextDelta}
use Rattle.lexicon_definitions.specs.Tries.{IsTrie, Row, Trie}
use Rattle.shared_trie.specs.Hashes.{hash_of}
use Rattle.shared_trie.specs.Heights.{AreHeights}
use Rattle.shared_trie.specs.Packed.{AreApart, ArePacked, children_with, row_with}
use Rattle.shared_trie.specs.declared.packed_node.PackedNode.{PackedNode}

-- lists of deltas by their numbers, of which 0 is that of the empty list; the rows so far, and the roots
pub record GrowingTrie : Type 0 where
  pub lists : List (List TextDelta)
  pub rows : List Row
  pub roots : List ℕ

-- the list of deltas with this number
abbrev pub list_of : List (List TextDelta) → ℕ → List TextDelta
list_of lists number = slice_index_or lists number []

-- lists were added after the old ones, but not more than one
pub record AddsList (old new : List (List TextDelta)) : Type 0 where
  pub more : List (List TextDelta)
  pub is : new ≡ old ++ more
  pub few : length more ≤ 1

-- the row with the list of deltas that has this number, and these children
abbrev pub row_of_list : List (List TextDelta) → ℕ → List (ℕ × ℕ) → Row
row_of_list lists list children = record { deltas = list_of lists list; children = children }

-- the deltas of the stored lists, after the empty list
abbrev pub lists_with : List (Vec Delta) → List (List TextDelta)
lists_with lists = [] ∷ map (λ (list : Vec Delta). map text_delta list.items) lists

-- the trie with these rows and roots
abbrev pub trie_of : GrowingTrie → Trie
trie_of growing = record { rows = growing.rows; roots = growing.roots }

-- the hash of the node's row
abbrev pub hash_of_node : List (ℕ × ℕ) → PackedNode → ℕ
hash_of_node children node = hash_of node.list (children_with children node)

-- the rows are packed, no two lists are the same, and rows and roots are those of a trie, with the rows' hashes and heights
pub record AreInterned (children : List (ℕ × ℕ)) (lists : List (Vec Delta)) (nodes : List PackedNode) (hashes heights roots : List ℕ) : Type 0 where
  pub packed : ArePacked children lists nodes
  pub apart : AreApart lists
  pub trie : IsTrie (record { rows = map (row_with children lists) nodes; roots = roots })
  pub room : 64 * length nodes < 2 ^ 32
  pub hashed : hashes ≡ map (hash_of_node children) nodes
  pub heighted : AreHeights (map (row_with children lists) nodes) heights
