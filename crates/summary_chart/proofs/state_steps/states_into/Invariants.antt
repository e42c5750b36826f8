-- The states that were found so far, and those of the rest of the set.
use Rattle.std.proofs.Common.{◌⊎◌, ◌↔◌, ℕ}
use Rattle.summary_chart.specs.StateSets.{HasState, LeadsInto}
use Rattle.summary_chart.proofs.state_steps.states_into.Given as goal

abbrev pub invariant-loop-number : goal.invariant-loop-number
invariant-loop-number l = (number : ℕ) → LeadsInto l.automaton l.fn.set l.phase l.targets number ↔ (HasState l.into number ⊎ LeadsInto l.automaton l.rest l.phase l.targets number)

abbrev pub decreases-loop-number : goal.decreases-loop-number
decreases-loop-number l = l.rest.bits
