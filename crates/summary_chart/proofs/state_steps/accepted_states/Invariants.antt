-- The states that were found so far, and those of the rest of the set.
use Rattle.std.proofs.Common.{◌⊎◌, ◌↔◌, ℕ}
use Rattle.summary_chart.specs.StateSets.{HasState, IsAcceptedBy}
use Rattle.summary_chart.proofs.state_steps.accepted_states.Given as goal

abbrev pub invariant-loop-number : goal.invariant-loop-number
invariant-loop-number l = (number : ℕ) → IsAcceptedBy l.automaton l.fn.set l.phase number ↔ (HasState l.accepted number ⊎ IsAcceptedBy l.automaton l.rest l.phase number)

abbrev pub decreases-loop-number : goal.decreases-loop-number
decreases-loop-number l = l.rest.bits
