-- So far the nodes of the level up to the number are there.
use Rattle.shared_trie.proofs.CanonicalSteps.{IsLevelBelow}
use Rattle.shared_trie.proofs.canonical.level_of.Given as goal

abbrev pub invariant-loop-number : goal.invariant-loop-number
invariant-loop-number l = IsLevelBelow l.store l.height l.number l.level.items
