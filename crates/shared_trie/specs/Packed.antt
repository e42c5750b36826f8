-- Rows as they are packed: the children of all nodes in one list, and lists of deltas by number.
use Rattle.std.specs.Prelude.{◌≡◌, ◌≢◌, ℕ, zero, suc, ◌+◌, ◌*◌, ◌≤◌, List, [], ◌++◌, length, map, slice_index_or, slice_range, All}
use Rattle.std.specs.Global.{Vec}
use Rattle.std.specs.List.{IsDistinct}
use Rattle.std.specs.Cmp.Lexicographic.{pointwise}
use Rattle.form_tags.specs.contracts.delta.DeltaPartialEq.TheImpl.{eq-value as delta_eq}
use Rattle.form_tags.specs.declared.delta.Delta.{Delta}
use Rattle.form_tags.specs.Analyses.{text_delta}
use Rattle.lexicon_definitions.specs.declared.limits.TheConstants.{MOST_FORM_LINES}
use Rattle.lexicon_definitions.specs.Deltas.{Delta as TextDelta}
use Rattle.lexicon_definitions.specs.Tries.{Row}
use Rattle.shared_trie.specs.LetterSets.{letters_in}
use Rattle.shared_trie.specs.declared.packed_node.PackedNode.{PackedNode}

-- the deltas of the list with the number, counted from 1; none for 0
abbrev pub list_with : List (Vec Delta) → ℕ → List TextDelta
list_with lists zero = []
list_with lists (suc place) = map text_delta (slice_index_or (map (λ (list : Vec Delta). list.items) lists) place [])

-- the children of the node: from its first one on as many as it has letters
abbrev pub children_with : List (ℕ × ℕ) → PackedNode → List (ℕ × ℕ)
children_with children node = slice_range children node.first (node.first + length (letters_in node.letters))

-- the row of the node
abbrev pub row_with : List (ℕ × ℕ) → List (Vec Delta) → PackedNode → Row
row_with children lists node = record { deltas = list_with lists node.list; children = children_with children node }

-- the node's children are there, its letters are just theirs, and its list is there
pub record IsPacked (children : List (ℕ × ℕ)) (lists : List (Vec Delta)) (node : PackedNode) : Type 0 where
  pub within : node.first + length (letters_in node.letters) ≤ length children
  pub letters : map (λ (child : ℕ × ℕ). child.0) (children_with children node) ≡ letters_in node.letters
  pub listed : node.list ≤ length lists

-- each node is packed, no more than 64 children were added with each, there are no more lists than nodes and lines of forms, and
-- no list is empty
pub record ArePacked (children : List (ℕ × ℕ)) (lists : List (Vec Delta)) (nodes : List PackedNode) : Type 0 where
  pub each : All (IsPacked children lists) nodes
  pub few : length children ≤ 64 * length nodes
  pub few_lists : length lists ≤ length nodes + MOST_FORM_LINES
  pub some : All (λ (list : Vec Delta). list.items ≢ []) lists

-- a table has its rows packed, and beside its children their nodes alone
pub record IsTable (children : List (ℕ × ℕ)) (targets : List ℕ) (lists : List (Vec Delta)) (nodes : List PackedNode) : Type 0 where
  pub packed : ArePacked children lists nodes
  pub alone : targets ≡ map (λ (child : ℕ × ℕ). child.1) children

-- lists were added after the old ones, none of them empty, and not more than one
pub record AddsLists (old new : List (Vec Delta)) : Type 0 where
  pub more : List (Vec Delta)
  pub is : new ≡ old ++ more
  pub few : length more ≤ 1
  pub some : All (λ (list : Vec Delta). list.items ≢ []) more

-- no two lists are equal
abbrev pub AreApart : List (Vec Delta) → Type 0
AreApart lists = IsDistinct (λ (left right : Vec Delta). pointwise delta_eq.it left.items right.items) lists

-- the number is that of the list
pub record IsNumberOf (lists : List (Vec Delta)) (deltas : List TextDelta) (number : ℕ) : Type 0 where
  pub listed : number ≤ length lists
  pub is : list_with lists number ≡ deltas
