-- The set leads where was led to so far, and where the rest of it leads.
use Rattle.std.proofs.Common.{◌⊎◌, ◌↔◌, ℕ}
use Rattle.summary_chart.specs.StateSets.{HasState, IsLedTo}
use Rattle.summary_chart.proofs.state_steps.states_after.Given as goal

abbrev pub invariant-loop-number : goal.invariant-loop-number
invariant-loop-number l = (number : ℕ) → IsLedTo l.automaton l.fn.set l.phase number ↔ (HasState l.after number ⊎ IsLedTo l.automaton l.rest l.phase number)

abbrev pub decreases-loop-number : goal.decreases-loop-number
decreases-loop-number l = l.rest.bits
