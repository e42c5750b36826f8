-- How many steps a frame takes: to walk to the nodes of a phase, to see the choices of each, and one more for each key that it
-- comes to (own).
use Rattle.std.specs.Prelude.{ℕ, ◌+◌, ◌*◌, ◌<◌, ◌≤◌, length}
use Rattle.annotated_trie.specs.Choices.{AnnotatedTrie, choices_of}
use Rattle.annotated_trie.specs.Searched.{SearchedLexicon}
use Rattle.search_frames.specs.declared.frame.TheConstants.{NODES_OF_FRAME}
use Rattle.search_frames.specs.Configurations.{rules_in}

-- no node has more choices than this
abbrev pub HasAtMostRules : AnnotatedTrie → ℕ → Type 0
HasAtMostRules tries most = (node : ℕ) → node < length tries.trie.rows → length (choices_of tries node) ≤ most

-- the most steps at a node: a look for each choice and one that finds no choice left, and one for each key
abbrev pub steps_of_node : ℕ → ℕ
steps_of_node most = 2 * (most + 1)

-- the most steps of a phase: one for each letter that is walked, and those at each node
abbrev pub steps_of_phase : ℕ → ℕ
steps_of_phase most = NODES_OF_FRAME + NODES_OF_FRAME * steps_of_node most

-- the most steps of a frame
abbrev pub steps_of_frame : SearchedLexicon → ℕ → ℕ
steps_of_frame searched most = length (rules_in searched).names * steps_of_phase most
