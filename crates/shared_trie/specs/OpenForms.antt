-- Rows of the fronts of the last form, as far as they are known. Forms come rising, so a row gets its children in order.
use Rattle.std.specs.Prelude.{◌≡◌, ◌≢◌, ℕ, ◌+◌, ◌*◌, ◌<◌, ◌≤◌, ◌↔◌, ◌⊎◌, List, [], ◌∷◌, ◌++◌, length, map, take, slice_index, slice_index_or, All, Contains}
use Rattle.std.specs.Ordering.{nat_cmp, on}
use Rattle.std.specs.List.Sorted.{IsStrictlySortedBy}
use Rattle.text_definitions.specs.Letters.{IsLetter}
use Rattle.lexicon_definitions.specs.declared.limits.TheConstants.{MOST_FORM_LETTERS}
use Rattle.lexicon_definitions.specs.Analyses.{Analysis}
use Rattle.lexicon_definitions.specs.Deltas.{Delta, IsDelta, compare_deltas}
use Rattle.lexicon_definitions.specs.FormEntries.{Entry}
use Rattle.lexicon_definitions.specs.Lexicons.{Form}
use Rattle.lexicon_definitions.specs.Tries.{IsTrie, Row, BeginsForm, HasDelta, empty_row}
use Rattle.shared_trie.specs.DeltaNumbers.{IsListFor, delta_of}
use Rattle.shared_trie.specs.Interned.{GrowingTrie, list_of, row_of_list, trie_of}
use Rattle.shared_trie.specs.OpenPaths.{PathRow, no_row, path_row}
use Rattle.shared_trie.specs.Runs.{IsNodeFor, IsRootFor}
use Rattle.shared_trie.specs.declared.open_trie.OpenTrie.{OpenTrie}

-- ---- one row

-- the child stands for what follows the front and its letter, with which some form begins
pub record IsKnownChild (rows : List Row) (forms : List Form) (front : List ℕ) (child : ℕ × ℕ) : Type 0 where
  pub letter : IsLetter child.0
  pub known : IsNodeFor rows forms (front ++ child.0 ∷ []) child.1
  pub begins : BeginsForm forms (front ++ child.0 ∷ [])

-- the row has the deltas of the front, and children that are known
pub record IsKnownRow (rows : List Row) (forms : List Form) (front : List ℕ) (row : Row) : Type 0 where
  pub deltas_rise : IsStrictlySortedBy compare_deltas row.deltas
  pub deltas : (delta : Delta) → Contains row.deltas delta ↔ HasDelta forms front delta
  pub rising : IsStrictlySortedBy (on (λ (child : ℕ × ℕ). child.0) nat_cmp) row.children
  pub children : All (IsKnownChild rows forms front) row.children

-- the row's children are those of all letters that follow the front but this one, which comes after them
pub record IsOpenRow (rows : List Row) (forms : List Form) (front : List ℕ) (letter : ℕ) (row : Row) : Type 0 where
  pub known : IsKnownRow rows forms front row
  pub below : All (λ (child : ℕ × ℕ). child.0 < letter) row.children
  pub seen : (other : ℕ) → BeginsForm forms (front ++ other ∷ []) → (other ≡ letter) ⊎ ((child : ℕ) × Contains row.children (other, child))

-- the row's children are those of all letters that follow the front
pub record IsWholeRow (rows : List Row) (forms : List Form) (front : List ℕ) (row : Row) : Type 0 where
  pub known : IsKnownRow rows forms front row
  pub seen : (other : ℕ) → BeginsForm forms (front ++ other ∷ []) → (child : ℕ) × Contains row.children (other, child)

-- ---- the rows of a path

-- the row of the front with so many letters
abbrev pub row_at : List (List Delta) → List PathRow → ℕ → Row
row_at lists path depth = row_of_list lists (path_row path depth).list (path_row path depth).children

-- there is a row for each length of a form, and its list of deltas is there
pub record IsPath (lists : List (List Delta)) (path : List PathRow) : Type 0 where
  pub size : length path ≡ MOST_FORM_LETTERS + 1
  pub listed : (depth : ℕ) → (path_row path depth).list < length lists

-- the rows of the word's shorter fronts are open towards its next letter, and those of longer ones are empty
pub record IsOpenTo (rows : List Row) (lists : List (List Delta)) (forms : List Form) (word : List ℕ) (depth : ℕ) (path : List PathRow) : Type 0 where
  pub deep : depth ≤ length word
  pub open_rows : (d : ℕ) → d < depth → IsOpenRow rows forms (take d word) (slice_index word d) (row_at lists path d)
  pub empty_rows : (d : ℕ) → depth < d → path_row path d ≡ no_row

-- ---- what was told

-- the entry is the last: no phase after its own has a form, its form is the last of its phase, and its analysis the last of its form
pub record IsLastEntry (phases : List (List Form)) (entry : Entry) : Type 0 where
  pub within : entry.phase < length phases
  pub none_after : (phase : ℕ) → entry.phase < phase → slice_index_or phases phase [] ≡ []
  pub before : List Form
  pub analyses : List Analysis
  pub is : slice_index_or phases entry.phase []
      ≡ before ++ record { letters = entry.letters; analyses = analyses ++ entry.analysis ∷ [] } ∷ []

-- the deltas stand at the places of their analyses
pub record AreDeltas (form : List ℕ) (analyses : List Analysis) (deltas : List Delta) : Type 0 where
  pub count : length deltas ≡ length analyses
  pub each : (k : ℕ) (a : Analysis) (d : Delta) → k < length analyses → IsDelta form (slice_index_or analyses k a) (slice_index_or deltas k d)

-- the numbers are those of the deltas of the analyses
pub record AreNumbersOf (deltas : List Delta) (form : List ℕ) (analyses : List Analysis) (numbers : List ℕ) : Type 0 where
  pub within : All (λ number. number < length deltas) numbers
  pub are : AreDeltas form analyses (map (delta_of deltas) numbers)

-- the list with the number is that of the deltas with the numbers
pub record IsKnownList (deltas : List Delta) (lists : List (List Delta)) (known : List ℕ × ℕ) : Type 0 where
  pub within : known.1 < length lists
  pub is : IsListFor deltas known.0 (list_of lists known.1)

-- ---- the trie so far

-- the first phases, so many, have their roots
pub record HasRoots (phases : List (List Form)) (trie : GrowingTrie) (count : ℕ) : Type 0 where
  pub is_trie : IsTrie (trie_of trie)
  pub count_is : length trie.roots ≡ count
  pub each : (phase : ℕ) → phase < count → IsRootFor trie.rows (slice_index_or phases phase []) (slice_index trie.roots phase)

-- lists of deltas, of which the first is empty, are told by their numbers, and there are no more deltas, rows and lists than so many entries can bring
pub record IsKept (lines rows_left lists_left phase : ℕ) (open_trie : OpenTrie) : Type 0 where
  pub some : 0 < length open_trie.trie.lists
  pub first : list_of open_trie.trie.lists 0 ≡ []
  pub known : All (IsKnownList open_trie.deltas open_trie.trie.lists) open_trie.known
  pub path : IsPath open_trie.trie.lists open_trie.path
  pub few_rows : length open_trie.trie.rows + rows_left ≤ 64 * lines + phase
  pub few_lists : length open_trie.trie.lists + lists_left ≤ lines + 1
  pub few_known : length open_trie.known + lists_left ≤ lines
  pub few_deltas : length open_trie.deltas ≤ lines

-- the phases before this one have their roots, and no other phase has a form yet
pub record IsBetween (phases : List (List Form)) (lines phase : ℕ) (open_trie : OpenTrie) : Type 0 where
  pub kept : IsKept lines 0 0 phase open_trie
  pub roots : HasRoots phases open_trie.trie phase
  pub none : (k : ℕ) → phase ≤ k → slice_index_or phases k [] ≡ []
  pub empty_rows : (d : ℕ) → path_row open_trie.path d ≡ no_row
  pub no_numbers : open_trie.numbers.items ≡ []

-- the last form is not a node yet: its deltas have numbers, and the rows of its shorter fronts are open
pub record IsPending (phases : List (List Form)) (lines : ℕ) (last : Entry) (open_trie : OpenTrie) : Type 0 where
  pub kept : IsKept lines 64 1 last.phase open_trie
  pub roots : HasRoots phases open_trie.trie last.phase
  pub is_last : IsLastEntry phases last
  pub open_to : IsOpenTo open_trie.trie.rows open_trie.trie.lists (slice_index_or phases last.phase []) last.letters (length last.letters) open_trie.path
  pub bottom : path_row open_trie.path (length last.letters) ≡ no_row
  pub numbers : AreNumbersOf open_trie.deltas last.letters (is_last.analyses ++ last.analysis ∷ []) open_trie.numbers.items

-- the rows of the longer fronts of the last form are nodes, and the row of this front has all its children
pub record IsEnded (phases : List (List Form)) (lines : ℕ) (last : Entry) (depth : ℕ) (open_trie : OpenTrie) : Type 0 where
  pub kept : IsKept lines depth 0 last.phase open_trie
  pub roots : HasRoots phases open_trie.trie last.phase
  pub is_last : IsLastEntry phases last
  pub open_to : IsOpenTo open_trie.trie.rows open_trie.trie.lists (slice_index_or phases last.phase []) last.letters depth open_trie.path
  pub whole : IsWholeRow open_trie.trie.rows (slice_index_or phases last.phase []) (take depth last.letters) (row_at open_trie.trie.lists open_trie.path depth)
  pub filled : row_at open_trie.trie.lists open_trie.path depth ≢ empty_row
  pub no_numbers : open_trie.numbers.items ≡ []

-- all is ready for the entry, which is the last of these phases: the rows of the fronts of its form are open, and the numbers are
-- those of the form's analyses before it
pub record IsReadyFor (phases : List (List Form)) (lines : ℕ) (entry : Entry) (open_trie : OpenTrie) : Type 0 where
  pub kept : IsKept lines 0 0 entry.phase open_trie
  pub roots : HasRoots phases open_trie.trie entry.phase
  pub is_last : IsLastEntry phases entry
  pub open_to : IsOpenTo open_trie.trie.rows open_trie.trie.lists (slice_index_or phases entry.phase []) entry.letters (length entry.letters) open_trie.path
  pub bottom : path_row open_trie.path (length entry.letters) ≡ no_row
  pub numbers : AreNumbersOf open_trie.deltas entry.letters is_last.analyses open_trie.numbers.items
