-- The nodes from the number on have marked their children.
use Rattle.std.proofs.Common.{◌≤◌, length}
use Rattle.shared_trie.specs.CanonicalNodes.{AreMarkedFrom}
use Rattle.shared_trie.proofs.canonical_marks.mark_led_to.Given as goal

abbrev pub invariant-loop-number : goal.invariant-loop-number
invariant-loop-number l = AreMarkedFrom l.store l.number l.marks.items × (l.number ≤ length l.store.rows)
