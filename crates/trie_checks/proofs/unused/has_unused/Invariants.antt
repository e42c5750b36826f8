-- roots and the children of the nodes so far are marked
use Rattle.std.proofs.Common.{◌≡◌, ℕ, ◌↔◌, ◌⊎◌, length}
use Rattle.std.specs.Prelude.{Contains}
use Rattle.trie_checks.specs.Marks.{IsMarked}
use Rattle.trie_checks.proofs.UsedNodes.{HasParent}
use Rattle.trie_checks.proofs.unused.has_unused.Given as goal

abbrev pub invariant-loop-number : goal.invariant-loop-number
invariant-loop-number l =
    (length l.used.items ≡ length l.store.rows)
    × ((node : ℕ) → IsMarked l.used.items node ↔ (Contains l.store.roots node ⊎ HasParent l.store.rows l.number node))
