-- The levels below the height are placed.
use Rattle.std.proofs.Common.{◌≡◌, length}
use Rattle.shared_trie.specs.CanonicalNodes.{ArePlaced}
use Rattle.shared_trie.proofs.store.Store.numbered.Given as goal

abbrev pub invariant-loop-height : goal.invariant-loop-height
invariant-loop-height l = record { count : l.numbers.count ≡ length l.self.rows; placed : ArePlaced l.self l.height l.numbers.nodes }
