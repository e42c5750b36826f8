-- So far the children up to the one after the index are listed.
use Rattle.std.proofs.Common.{◌+◌, take}
use Rattle.trie_text_definitions.specs.NodeLines.{child_text}
use Rattle.trie_text_definitions.specs.PrintableRows.{IsPrintableChild}
use Rattle.shared_trie.specs.CanonicalNodes.{numbered_child}
use Rattle.shared_trie.proofs.ListedTexts.{AreListed}
use Rattle.shared_trie.proofs.canonical_lines.push_children.Given as goal

abbrev pub invariant-loop-child : goal.invariant-loop-child
invariant-loop-child l = AreListed (numbered_child l.numbers.nodes) child_text IsPrintableChild l.fn.out.items l.out.items (take (l.child-index + 1) l.children)
