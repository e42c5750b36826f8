-- none of the nodes so far
use Rattle.std.proofs.Common.{take}
use Rattle.trie_checks.specs.Bounds.{HasOne}
use Rattle.trie_checks.specs.Marks.{IsMarked}
use Rattle.trie_checks.proofs.put_back.any_marked.Given as goal

abbrev pub invariant-loop-node : goal.invariant-loop-node
invariant-loop-node l = HasOne (IsMarked l.marks) (take l.node-index l.nodes) → ⊥
