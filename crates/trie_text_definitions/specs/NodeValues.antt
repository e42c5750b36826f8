-- What is made for each node of a trie from what was made for its children, whose numbers are smaller: its height, the forms that
-- it stands for, and the nodes to which it leads (own).
use Rattle.std.specs.Prelude.{ℕ, ◌+◌, ◌==◌, max, not, Bool, List, [], ◌∷◌, ◌++◌, map, length, slice_index_or}
use Rattle.std.specs.List.{list_any, flat_map, range_with_len}
use Rattle.lexicon_definitions.specs.Deltas.{Delta}
use Rattle.lexicon_definitions.specs.Tries.{Row, Trie}

-- the values of the nodes with these rows, after those of the nodes before: each is made of the values before it and of the row
abbrev pub values_from : {X : Type 0} → (List X → Row → X) → List X → List Row → List X
values_from make values [] = values
values_from make values (row ∷ rows) = values_from make (values ++ make values row ∷ []) rows

-- the values of all nodes, by number
abbrev pub values_of : {X : Type 0} → (List X → Row → X) → List Row → List X
values_of make rows = values_from make [] rows

-- ---- heights

-- 0 without children, else 1 more than the greatest height of a child, by the heights of the nodes before
abbrev pub height_over : List ℕ → List (ℕ × ℕ) → ℕ
height_over heights [] = 0
height_over heights (child ∷ children) = max (slice_index_or heights child.1 0 + 1) (height_over heights children)

-- ---- forms

-- a word that leads from a node to one with deltas, and these deltas
pub record Suffix : Type 0 where
  pub word : List ℕ
  pub deltas : List Delta

-- the suffix with a letter before its word
abbrev pub after_letter : ℕ → Suffix → Suffix
after_letter letter suffix = record { word = letter ∷ suffix.word; deltas = suffix.deltas }

-- the empty word, where the node has deltas of its own
abbrev pub own_suffix : List Delta → List Suffix
own_suffix [] = []
own_suffix (delta ∷ deltas) = record { word = []; deltas = delta ∷ deltas } ∷ []

-- the suffixes of a child, each after the child's letter
abbrev pub child_suffixes : List (List Suffix) → ℕ × ℕ → List Suffix
child_suffixes suffixes child = map (after_letter child.0) (slice_index_or suffixes child.1 [])

-- the suffixes of a node, by those of the nodes before
abbrev pub suffixes_over : List (List Suffix) → Row → List Suffix
suffixes_over suffixes row = own_suffix row.deltas ++ flat_map (child_suffixes suffixes) row.children

-- the suffixes of the node with this number
abbrev pub suffixes_of : List Row → ℕ → List Suffix
suffixes_of rows node = slice_index_or (values_of suffixes_over rows) node []

-- ---- nodes to which a node leads

-- the node itself, and those to which its children lead
abbrev pub nodes_over : List (List ℕ) → Row → List ℕ
nodes_over nodes row = length nodes ∷ flat_map (λ (child : ℕ × ℕ). slice_index_or nodes child.1 []) row.children

-- the nodes to which the words that can be walked from the node with this number lead
abbrev pub nodes_from : List Row → ℕ → List ℕ
nodes_from rows node = slice_index_or (values_of nodes_over rows) node []

-- some root leads to the node
abbrev pub is_led_to : Trie → ℕ → Bool
is_led_to trie node = list_any (λ root. list_any (λ reached. reached == node) (nodes_from trie.rows root)) trie.roots

-- there is a node to which no root leads
abbrev pub has_unused : Trie → Bool
has_unused trie = list_any (λ node. not (is_led_to trie node)) (range_with_len 0 (length trie.rows))
