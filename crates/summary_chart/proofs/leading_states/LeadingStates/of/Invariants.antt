-- The states of the phases so far.
use Rattle.std.proofs.Common.{◌≡◌, ◌<◌, ◌↔◌, ℕ, length, get_or}
use Rattle.summary_chart.specs.StateSets.{HasState, LeadsOn, IsReached}
use Rattle.summary_chart.proofs.leading_states.LeadingStates.of.Given as goal

abbrev pub invariant-loop-phase : goal.invariant-loop-phase
invariant-loop-phase l = record {
  end : l.phase-end ≡ l.automaton.phases;
  many : length l.by_phase ≡ 16;
  many_reached : length l.reached ≡ 16;
  leads : (phase number : ℕ) → phase < l.phase
      → HasState (get_or l.by_phase phase (record { bits = 0 })) number ↔ LeadsOn l.automaton phase number;
  reaches : (phase number : ℕ) → phase < l.phase
      → HasState (get_or l.reached phase (record { bits = 0 })) number ↔ IsReached l.automaton phase number;
}
