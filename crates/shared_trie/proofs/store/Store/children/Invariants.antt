-- one step for each child that was counted, and one before
use Rattle.std.proofs.Common.{◌≡◌, ◌+◌}
use Rattle.shared_trie.proofs.store.Store.children.Given as goal

abbrev pub invariant-loop-child : goal.invariant-loop-child
invariant-loop-child g l = l.steps ≡ l.initial.steps + l._child-index
