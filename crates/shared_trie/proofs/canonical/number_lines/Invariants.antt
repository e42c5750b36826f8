-- So far the nodes of the lines up to the index have numbers.
use Rattle.std.proofs.Common.{◌≡◌, ◌++◌, map, take}
use Rattle.shared_trie.specs.CanonicalNodes.{NodeText}
use Rattle.shared_trie.proofs.canonical.number_lines.Given as goal

abbrev pub invariant-loop-line : goal.invariant-loop-line
invariant-loop-line l = record {
  count : l.numbers.count ≡ l.fn.numbers.count;
  nodes : l.numbers.nodes ≡ l.fn.numbers.nodes ++ map (λ (line : NodeText). line.node) (take l.line-index l.lines);
}
