-- So far the nodes of the children up to the index are marked.
use Rattle.std.proofs.Common.{take}
use Rattle.shared_trie.specs.CanonicalNodes.{MarksChildren}
use Rattle.shared_trie.proofs.canonical_marks.mark_children.Given as goal

abbrev pub invariant-loop-child : goal.invariant-loop-child
invariant-loop-child l = MarksChildren (take l.child-index l.children) l.fn.marks l.marks
