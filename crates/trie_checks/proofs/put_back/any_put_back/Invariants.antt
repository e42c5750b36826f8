-- the marks of the nodes so far
use Rattle.trie_checks.proofs.PutBackSteps.{AreMarked}
use Rattle.trie_checks.proofs.put_back.any_put_back.Given as goal

abbrev pub invariant-loop-number : goal.invariant-loop-number
invariant-loop-number l = AreMarked l.store.rows l.number l.put_back.items
