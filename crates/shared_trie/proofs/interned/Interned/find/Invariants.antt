-- The nodes after the one that is found have other rows.
use Rattle.shared_trie.specs.Interned.{row_of_list}
use Rattle.shared_trie.proofs.ChainLaws.{left_of}
use Rattle.shared_trie.proofs.InternedLaws.{IsSearched}
use Rattle.shared_trie.proofs.interned.Interned.find.Given as goal

abbrev pub invariant-loop-found : goal.invariant-loop-found
invariant-loop-found l = IsSearched l.self-inside.chains l.self.rows l.hash (row_of_list l.self.lists l.list l.children) l.found

abbrev pub decreases-loop-found : goal.decreases-loop-found
decreases-loop-found l = left_of l.found
