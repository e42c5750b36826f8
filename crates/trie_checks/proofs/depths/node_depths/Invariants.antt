-- the depths of the nodes so far
use Rattle.trie_checks.specs.NodeDepths.{AreDepths}
use Rattle.trie_checks.proofs.depths.node_depths.Given as goal

abbrev pub invariant-loop-number : goal.invariant-loop-number
invariant-loop-number l = AreDepths l.store.rows l.number l.least.items l.ends.items
