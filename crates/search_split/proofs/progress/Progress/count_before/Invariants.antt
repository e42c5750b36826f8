-- Before the first part there is no other.
use Rattle.std.proofs.Common.{◌≡◌}
use Rattle.search_split.proofs.progress.Progress.count_before.Given as goal

abbrev pub invariant-loop-number : goal.invariant-loop-number
invariant-loop-number l = l.place ≡ 0 → l.count ≡ 0
