-- the counts of the nodes so far
use Rattle.trie_checks.specs.declared.pairs.TheConstants.{TOO_MANY}
use Rattle.trie_checks.proofs.PairCounts.{AreCounts}
use Rattle.trie_checks.proofs.pairs.count_pairs.Given as goal

abbrev pub invariant-loop-number : goal.invariant-loop-number
invariant-loop-number l = AreCounts l.store.rows TOO_MANY l.number l.counts.items
