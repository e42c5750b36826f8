-- What is written and what is left to write are together all that is to be written.
use Rattle.std.proofs.Common.{◌≡◌, ◌++◌, string_bytes, map, drop}
use Rattle.lexicon_text_definitions.specs.LexiconTexts.{text_of_lines}
use Rattle.trie_text_definitions.specs.TrieTexts.{root_lines}
use Rattle.shared_trie.specs.CanonicalNodes.{number_in}
use Rattle.lexicon_file.proofs.writing_nodes.push_roots.Given as goal

abbrev pub invariant-loop-phase : goal.invariant-loop-phase
invariant-loop-phase l =
    l.out.items ++ text_of_lines (root_lines (map string_bytes (drop l.phase l.names)) (map (number_in l.numbers.nodes) (drop l.phase l.store.roots)))
    ≡ l.fn.out.items ++ text_of_lines (root_lines (map string_bytes l.names) (map (number_in l.numbers.nodes) l.store.roots))
