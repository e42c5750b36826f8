-- One phase more, whose states that lead and states that are reached were found (`StateMoves`).
use Rattle.std.proofs.Common.{ℕ, ◌<◌, ◌↔◌, length, length-set, ◌∙◌, arith}
use Rattle.summary_chart.specs.StateSets.{HasState, LeadsOn, IsReached}
use Rattle.summary_chart.specs.declared.state_set.StateSet.{StateSet}
use Rattle.summary_chart.proofs.StateMoves.{set_with_next, reached_by_leading}
use Rattle.summary_chart.proofs.leading_states.LeadingStates.of.Goals as goal

pub loop-phase-preserved : goal.loop-phase-preserved
loop-phase-preserved c =
    let inv = c.loop-phase.invariant in
    let machine = c.args.automaton.now in
    let phase = c.loop-phase.phase in
    let low : phase < length c.loop-phase.by_phase = omega (arith, c.loop-phase-test.true, inv.end, c.requires, inv.many) in
    let low_reached : phase < length c.loop-phase.reached = omega (arith, c.loop-phase-test.true, inv.end, c.requires, inv.many_reached) in
    record {
      end = inv.end;
      many = length-set c.loop-phase.by_phase phase c.states_leading_by-leading.result ∙ inv.many;
      many_reached = length-set c.loop-phase.reached phase c.states_after.result ∙ inv.many_reached;
      leads = λ other number below.
          set_with_next (λ (p : ℕ) (set : StateSet). (n : ℕ) → HasState set n ↔ LeadsOn machine p n) c.loop-phase.by_phase phase c.states_leading_by-leading.result (record { bits = 0 })
          low c.states_leading_by-leading.ensures (λ p before n. inv.leads p n before) other below number;
      reaches = λ other number below.
          set_with_next (λ (p : ℕ) (set : StateSet). (n : ℕ) → HasState set n ↔ IsReached machine p n) c.loop-phase.reached phase c.states_after.result (record { bits = 0 })
          low_reached (reached_by_leading machine phase c.states_leading_by-leading.result c.states_leading_by-leading.ensures c.states_after.result c.states_after.ensures)
          (λ p before n. inv.reaches p n before) other below number;
    }
