-- Where the letters of a line lead in the tries of a lexicon (own; after Huet 2005).
use Rattle.std.specs.Prelude.{◌≡◌, ℕ, ◌+◌, ◌<◌, ◌≤◌, Some, List, ◌++◌, length, take, drop, slice_index_or}
use Rattle.text_definitions.specs.Lines.{Line}
use Rattle.lexicon_definitions.specs.Tries.{walk}
use Rattle.answer_paths.specs.Fronts.{supplied}
use Rattle.annotated_trie.specs.Searched.{SearchedLexicon}
use Rattle.search_frames.specs.Configurations.{NumberedConfiguration}

-- what is supplied to a form here, and then so many letters of the line, lead from the root of the phase to the node
abbrev pub IsNodeAt : SearchedLexicon → Line → NumberedConfiguration → ℕ → ℕ → ℕ → Type 0
IsNodeAt searched line here phase taken node =
    walk searched.tries.trie.rows (slice_index_or searched.tries.trie.roots phase 0) (supplied here.entrance ++ take taken (drop here.at line.letters)) ≡ Some node

-- so many letters of the line are there, and they lead to the node that stands at their number among these
pub record IsNodeAmong (searched : SearchedLexicon) (line : Line) (here : NumberedConfiguration) (phase : ℕ) (nodes : List ℕ) (taken : ℕ) : Type 0 where
  pub letters : here.at + taken ≤ length line.letters
  pub there : taken < length nodes
  pub walked : IsNodeAt searched line here phase taken (slice_index_or nodes taken 0)
