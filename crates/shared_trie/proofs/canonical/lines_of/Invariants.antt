-- So far there are the lines of the nodes up to the index.
use Rattle.std.proofs.Common.{◌≡◌, map, take}
use Rattle.std.specs.Prelude.{All}
use Rattle.lexicon_definitions.specs.Tries.{row_of}
use Rattle.trie_text_definitions.specs.PrintableRows.{IsPrintable}
use Rattle.shared_trie.specs.CanonicalNodes.{numbered_row, text_of_node}
use Rattle.shared_trie.proofs.canonical.lines_of.Given as goal

abbrev pub invariant-loop-node : goal.invariant-loop-node
invariant-loop-node l = record {
  texts : l.lines.items ≡ map (text_of_node l.store.rows l.numbers.nodes) (take l.node-index l.level);
  printable : All (λ node. IsPrintable (numbered_row l.numbers.nodes (row_of l.store.rows node))) (take l.node-index l.level);
}
