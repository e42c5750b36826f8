-- No set so far is this one.
use Rattle.std.proofs.Common.{◌≢◌, ℕ, ◌<◌}
use Rattle.phase_automaton.specs.Subsets.{set_at}
use Rattle.phase_automaton.proofs.subsets.find_set.Given as goal

abbrev pub invariant-loop-number : goal.invariant-loop-number
invariant-loop-number l = (k : ℕ) → k < l.number → set_at l.sets k ≢ l.set
