-- the nodes so far are marked
use Rattle.std.proofs.Common.{ℕ, ◌↔◌, ◌⊎◌, take}
use Rattle.std.specs.Prelude.{Contains}
use Rattle.trie_checks.specs.Marks.{IsMarked}
use Rattle.trie_checks.proofs.unused.mark_nodes.Given as goal

abbrev pub invariant-loop-node : goal.invariant-loop-node
invariant-loop-node l =
    (node : ℕ) → IsMarked l.used node ↔ (IsMarked l.initial.used node ⊎ Contains (take l.node-index l.nodes) node)
