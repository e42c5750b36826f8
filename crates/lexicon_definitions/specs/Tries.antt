-- Tries with shared subtrees: a node stands for a set of suffixes with the deltas of each, and equal sets have one node
-- (Huet 2005; the rows are own).
use Rattle.std.specs.Prelude.{◌≡◌, ◌≢◌, ℕ, ◌<◌, ◌≤◌, ◌==◌, ◌↔◌, ◌⊎◌, ◌++◌, Option, Some, IsSome, List, [], ◌∷◌, length, find, option_and_then, slice_index_or, All, AllPairs, Contains}
use Rattle.std.specs.Option.{option_map}
use Rattle.std.specs.Ordering.{nat_cmp, on}
use Rattle.std.specs.List.Sorted.{IsStrictlySortedBy}
use Rattle.text_definitions.specs.Letters.{IsLetter}
use Rattle.lexicon_definitions.specs.Analyses.{Analysis}
use Rattle.lexicon_definitions.specs.Deltas.{Delta, IsDelta, compare_deltas}
use Rattle.lexicon_definitions.specs.Lexicons.{Form}

-- a node's own deltas, and its children: each a letter, and the number of the node to which it leads
pub record Row : Type 0 where
  pub deltas : List Delta
  pub children : List (ℕ × ℕ)

-- the rows of all nodes by their numbers, counted from 0, and the number of each phase's root
pub record Trie : Type 0 where
  pub rows : List Row
  pub roots : List ℕ

-- a row without deltas and children
abbrev pub empty_row : Row
empty_row = record { deltas = []; children = [] }

-- the row of the node with this number
abbrev pub row_of : List Row → ℕ → Row
row_of rows node = slice_index_or rows node empty_row

-- where the letter leads among these children
abbrev pub child_among : List (ℕ × ℕ) → ℕ → Option ℕ
child_among children letter = option_map (λ child. child.1) (find (λ child. child.0 == letter) children)

-- where the letter leads from the node
abbrev pub child_in : List Row → ℕ → ℕ → Option ℕ
child_in rows node letter = child_among (row_of rows node).children letter

-- where the word leads from the node, letter by letter
abbrev pub walk : List Row → ℕ → List ℕ → Option ℕ
walk rows node [] = Some node
walk rows node (letter ∷ word) = option_and_then (λ child. walk rows child word) (child_in rows node letter)

-- the word leads from the node to one that has this delta
pub record HasSuffix (rows : List Row) (node : ℕ) (word : List ℕ) (delta : Delta) : Type 0 where
  pub reached : ℕ
  pub walked : walk rows node word ≡ Some reached
  pub has_delta : Contains (row_of rows reached).deltas delta

-- the nodes stand for the same set of suffixes and deltas
abbrev pub HaveSameSuffixes : List Row → ℕ → ℕ → Type 0
HaveSameSuffixes rows left right =
    (word : List ℕ) (delta : Delta) → HasSuffix rows left word delta ↔ HasSuffix rows right word delta

-- the height of a node is the length of the longest word that can be walked from it
pub record IsHeight (rows : List Row) (node height : ℕ) : Type 0 where
  pub word : List ℕ
  pub has_length : length word ≡ height
  pub walks : IsSome (walk rows node word)
  pub longest : (other : List ℕ) → IsSome (walk rows node other) → length other ≤ height

-- the child has a letter, and leads to a node with a smaller number, which stands for some suffix
pub record IsChild (rows : List Row) (node : ℕ) (child : ℕ × ℕ) : Type 0 where
  pub letter : IsLetter child.0
  pub before : child.1 < node
  pub not_empty : row_of rows child.1 ≢ empty_row

-- the row may stand at this number: its deltas rise, and its children rise by their letters
pub record IsRow (rows : List Row) (node : ℕ) (row : Row) : Type 0 where
  pub deltas : IsStrictlySortedBy compare_deltas row.deltas
  pub children : All (IsChild rows node) row.children
  pub letters : IsStrictlySortedBy (on (λ (child : ℕ × ℕ). child.0) nat_cmp) row.children

-- each row may stand at its number, and no two rows are the same
pub record AreRows (rows : List Row) : Type 0 where
  pub each : (node : ℕ) → node < length rows → IsRow rows node (row_of rows node)
  pub distinct : AllPairs (λ left right. left ≢ right) rows

-- a trie has rows, and roots that are nodes
pub record IsTrie (trie : Trie) : Type 0 where
  pub rows : AreRows trie.rows
  pub roots : All (λ root. root < length trie.rows) trie.roots

-- one of the forms begins with the word
pub record BeginsForm (forms : List Form) (word : List ℕ) : Type 0 where
  pub form : Form
  pub is_among : Contains forms form
  pub rest : List ℕ
  pub has_letters : form.letters ≡ word ++ rest

-- the delta is that of an analysis of the form with these letters
pub record HasDelta (forms : List Form) (word : List ℕ) (delta : Delta) : Type 0 where
  pub form : Form
  pub is_among : Contains forms form
  pub has_letters : form.letters ≡ word
  pub analysis : Analysis
  pub is_analyzed : Contains form.analyses analysis
  pub is_delta : IsDelta word analysis delta

-- the node stands for what follows the front in the forms that begin with it: from it just the words can be walked with
-- which a form goes on after the front, and the empty word; and the node that is reached has just the deltas of the form
-- that is the front and the word
pub record IsNodeAfter (rows : List Row) (forms : List Form) (front : List ℕ) (node : ℕ) : Type 0 where
  pub walks : (word : List ℕ) → IsSome (walk rows node word) ↔ ((word ≡ []) ⊎ BeginsForm forms (front ++ word))
  pub deltas : (word : List ℕ) (reached : ℕ) → walk rows node word ≡ Some reached
      → (delta : Delta) → Contains (row_of rows reached).deltas delta ↔ HasDelta forms (front ++ word) delta

-- the trie has a root for each phase, which stands for all forms of the phase
pub record IsTrieOf (trie : Trie) (phases : List (List Form)) : Type 0 where
  pub is_trie : IsTrie trie
  pub count : length trie.roots ≡ length phases
  pub each : (phase : ℕ) → phase < length phases
      → IsNodeAfter trie.rows (slice_index_or phases phase []) [] (slice_index_or trie.roots phase 0)
