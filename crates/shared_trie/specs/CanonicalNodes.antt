-- The nodes of a trie to which some root leads, in the order in which lexicon files tell them, and the trie that has these nodes alone.
use Rattle.std.specs.Prelude.{◌≡◌, ◌≢◌, ℕ, ◌+◌, ◌<◌, ◌≤◌, ◌==◌, ◌↔◌, ◌⊎◌, Bool, true, false, if◌then◌else◌, length, List, [], ◌∷◌, map, AllPairs, Contains, slice_index_or}
use Rattle.std.specs.List.Sorted.{IsStrictlySortedBy}
use Rattle.lexicon_definitions.specs.Tries.{Row, Trie, IsTrie, row_of}
use Rattle.trie_text_definitions.specs.NodeLines.{NodeLine, compare_node_lines, heights, node_line, node_lines}
use Rattle.trie_text_definitions.specs.VersionTexts.{IsLedTo}

-- where the node stands among these, counted from 0
unfoldable pub number_in : List ℕ → ℕ → ℕ
number_in [] node = 0
number_in (first ∷ nodes) node = if first == node then 0 else number_in nodes node + 1

-- a child by its new number
abbrev pub numbered_child : List ℕ → ℕ × ℕ → ℕ × ℕ
numbered_child nodes child = (child.0, number_in nodes child.1)

-- a row with the new numbers of its children
abbrev pub numbered_row : List ℕ → Row → Row
numbered_row nodes row = record { deltas = row.deltas; children = map (numbered_child nodes) row.children }

-- the rows of these nodes
abbrev pub rows_of_nodes : List Row → List ℕ → List Row
rows_of_nodes rows nodes = map (λ node. numbered_row nodes (row_of rows node)) nodes

-- the trie that has these nodes alone
abbrev pub trie_of_nodes : Trie → List ℕ → Trie
trie_of_nodes trie nodes = record { rows = rows_of_nodes trie.rows nodes; roots = map (number_in nodes) trie.roots }

-- the nodes are those to which some root leads, each child comes before its parents, and each line is below the next
pub record IsCanonical (trie : Trie) (nodes : List ℕ) : Type 0 where
  pub led_to : (node : ℕ) → Contains nodes node ↔ IsLedTo trie node
  pub is_trie : IsTrie (trie_of_nodes trie nodes)
  pub rising : IsStrictlySortedBy compare_node_lines (node_lines (rows_of_nodes trie.rows nodes))

-- ---- level by level

-- the height of a node, as lines have it
abbrev pub height_of : List Row → ℕ → ℕ
height_of rows node = slice_index_or (heights (node_lines rows)) node 0

-- the height of a node, and its line by the new numbers
abbrev pub line_in : List Row → List ℕ → ℕ → NodeLine
line_in rows nodes node = record { height = height_of rows node; bytes = node_line (numbered_row nodes (row_of rows node)) }

-- a node, and its line by the new numbers
pub record NodeText : Type 0 where
  pub node : ℕ
  pub bytes : List ℕ

abbrev pub text_of_node : List Row → List ℕ → ℕ → NodeText
text_of_node rows nodes node = record { node = node; bytes = node_line (numbered_row nodes (row_of rows node)) }

-- the nodes below the height to which some root leads, in their order
pub record ArePlaced (trie : Trie) (height : ℕ) (nodes : List ℕ) : Type 0 where
  pub each : (node : ℕ) → Contains nodes node ↔ (IsLedTo trie node × (height_of trie.rows node < height))
  pub rising : IsStrictlySortedBy compare_node_lines (map (line_in trie.rows nodes) nodes)

-- the nodes of the height to which some root leads, none of them twice
pub record IsLevelOf (trie : Trie) (height : ℕ) (level : List ℕ) : Type 0 where
  pub each : (node : ℕ) → Contains level node ↔ (IsLedTo trie node × (height_of trie.rows node ≡ height))
  pub apart : AllPairs (λ (left right : ℕ). left ≢ right) level

-- ---- what is kept while it is made

-- nodes with their numbers, of so many in all
pub record Numbered : Type 0 where
  pub count : ℕ
  pub nodes : List ℕ

-- at each of these nodes its number stands
abbrev pub AreNumbered : List ℕ → List ℕ → Type 0
AreNumbered nodes numbers = (node : ℕ) → Contains nodes node → (node < length numbers) × (slice_index_or numbers node 0 ≡ number_in nodes node)

-- some child is the node
abbrev pub IsChildAmong : List (ℕ × ℕ) → ℕ → Type 0
IsChildAmong children node = (child : ℕ × ℕ) × Contains children child × (child.1 ≡ node)

-- with the marks that stood before, just the children's nodes are marked
pub record MarksChildren (children : List (ℕ × ℕ)) (old new : List Bool) : Type 0 where
  pub count : length new ≡ length old
  pub each : (node : ℕ) → (slice_index_or new node false ≡ true) ↔ ((slice_index_or old node false ≡ true) ⊎ IsChildAmong children node)

-- roots are marked, nothing is marked to which no root leads, and the children of marked nodes from this number on are marked
pub record AreMarkedFrom (trie : Trie) (from : ℕ) (marks : List Bool) : Type 0 where
  pub count : length marks ≡ length trie.rows
  pub sound : (node : ℕ) → slice_index_or marks node false ≡ true → IsLedTo trie node
  pub roots : (root : ℕ) → Contains trie.roots root → slice_index_or marks root false ≡ true
  pub closed : (node : ℕ) → from ≤ node → slice_index_or marks node false ≡ true → (child : ℕ × ℕ) → Contains (row_of trie.rows node).children child
      → slice_index_or marks child.1 false ≡ true

-- just the nodes are marked to which some root leads
pub record AreMarked (trie : Trie) (marks : List Bool) : Type 0 where
  pub count : length marks ≡ length trie.rows
  pub each : (node : ℕ) → (slice_index_or marks node false ≡ true) ↔ IsLedTo trie node
