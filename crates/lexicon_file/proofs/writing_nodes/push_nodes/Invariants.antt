-- What is written and what is left to write are together all that is to be written.
use Rattle.std.proofs.Common.{◌≡◌, ◌++◌, map, drop}
use Rattle.lexicon_definitions.specs.Tries.{row_of}
use Rattle.lexicon_text_definitions.specs.LexiconTexts.{text_of_lines}
use Rattle.trie_text_definitions.specs.NodeLines.{node_line}
use Rattle.shared_trie.specs.CanonicalNodes.{numbered_row, rows_of_nodes}
use Rattle.lexicon_file.proofs.writing_nodes.push_nodes.Given as goal

abbrev pub invariant-loop-node : goal.invariant-loop-node
invariant-loop-node l =
    l.out.items ++ text_of_lines (map node_line (map (λ node. numbered_row l.numbers.nodes (row_of l.store.rows node)) (drop l.node-index l.numbers.nodes)))
    ≡ l.fn.out.items ++ text_of_lines (map node_line (rows_of_nodes l.store.rows l.numbers.nodes))
