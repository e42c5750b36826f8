-- The states so far that lead on were found.
use Rattle.std.proofs.Common.{◌≡◌, ◌<◌, ◌↔◌, ℕ, Some, length}
use Rattle.phase_automaton.specs.Automata.{next_state}
use Rattle.summary_chart.specs.StateSets.{HasState}
use Rattle.summary_chart.proofs.leading_states.states_leading_by.Given as goal

abbrev pub invariant-loop-number : goal.invariant-loop-number
invariant-loop-number l = record {
  end : l.number-end ≡ length l.automaton.states;
  found : (number : ℕ) → HasState l.leading number
      ↔ ((number < l.number) × ((to : ℕ) × (next_state l.automaton (Some number) l.phase ≡ Some to)));
}
