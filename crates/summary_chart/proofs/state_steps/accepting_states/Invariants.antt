-- The states so far that end words were found.
use Rattle.std.proofs.Common.{◌≡◌, ◌<◌, ◌↔◌, ℕ, IsTrue, Some, length}
use Rattle.phase_automaton.specs.Automata.{is_accepting}
use Rattle.summary_chart.specs.StateSets.{HasState}
use Rattle.summary_chart.proofs.state_steps.accepting_states.Given as goal

abbrev pub invariant-loop-number : goal.invariant-loop-number
invariant-loop-number l = record {
  end : l.number-end ≡ length l.automaton.states;
  found : (number : ℕ) → HasState l.accepting number ↔ ((number < l.number) × IsTrue (is_accepting l.automaton (Some number)));
}
