-- How far a trie is built: what is known of its parts after the entries so far.
use Rattle.std.specs.Prelude.{◌≡◌, ℕ, ◌≤◌, Bool, false, Option, None, Some, List, [], length, slice_index_or}
use Rattle.lexicon_definitions.specs.declared.limits.TheConstants.{MOST_FORM_LINES, MOST_PHASES}
use Rattle.lexicon_definitions.specs.FormEntries.{Entry}
use Rattle.lexicon_definitions.specs.Lexicons.{Form}
use Rattle.lexicon_definitions.specs.Limits.{count_lines}
use Rattle.shared_trie.specs.FormLists.{AreFormLists}
use Rattle.shared_trie.specs.OpenForms.{IsBetween, IsLastEntry, IsPending}
use Rattle.shared_trie.specs.declared.open_trie.OpenTrie.{OpenTrie}

-- the entry is the last one; or no phase has a form
abbrev pub IsLastOf : List (List Form) → Option Entry → Type 0
IsLastOf phases None = (phase : ℕ) → slice_index_or phases phase [] ≡ []
IsLastOf phases (Some last) = IsLastEntry phases last

-- the last entry's form is not a node yet; or there is no node
abbrev pub IsStage : List (List Form) → ℕ → Option Entry → OpenTrie → Type 0
IsStage phases lines None open_trie = IsBetween phases lines 0 open_trie
IsStage phases lines (Some last) open_trie = IsPending phases lines last open_trie

-- forms and counts are those of the entries that were told, and so is the trie, unless memory was wanting
pub record IsBuilt (told : List (List Form) × ℕ) (phases lines : ℕ) (last : Option Entry) (open_trie : OpenTrie) (failed : Bool) : Type 0 where
  pub phases_are : phases ≡ length told.0
  pub few_phases : phases ≤ MOST_PHASES
  pub lines_are : lines ≡ count_lines told.0
  pub few_lines : lines ≤ MOST_FORM_LINES
  pub count : told.1 ≡ lines
  pub lists : AreFormLists told.0
  pub is_last : IsLastOf told.0 last
  pub stage : failed ≡ false → IsStage told.0 told.1 last open_trie
