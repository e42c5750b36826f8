-- What is found has the hash.
use Rattle.shared_trie.proofs.ChainLaws.{HasHash, left_of}
use Rattle.shared_trie.proofs.known_lists.KnownLists.find.Given as goal

abbrev pub invariant-loop-found : goal.invariant-loop-found
invariant-loop-found l = HasHash l.self-inside.chains l.hash l.found

abbrev pub decreases-loop-found : goal.decreases-loop-found
decreases-loop-found l = left_of l.found
