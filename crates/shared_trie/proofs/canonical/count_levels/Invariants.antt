-- The nodes so far are less high.
use Rattle.std.proofs.Common.{ℕ, ◌<◌}
use Rattle.shared_trie.specs.CanonicalNodes.{height_of}
use Rattle.shared_trie.proofs.canonical.count_levels.Given as goal

abbrev pub invariant-loop-number : goal.invariant-loop-number
invariant-loop-number l = (node : ℕ) → node < l.number → height_of l.store.rows node < l.levels
