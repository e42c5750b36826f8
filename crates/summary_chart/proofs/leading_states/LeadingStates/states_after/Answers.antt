-- All states that lead by the phase lead to one (`StateMoves`).
use Rattle.summary_chart.proofs.StateMoves.{led_to_one}
use Rattle.summary_chart.proofs.leading_states.LeadingStates.states_after.Goals as goal

pub returns-then-has_one : goal.returns-then-has_one
returns-then-has_one c =
    let machine = c.args.automaton.now in
    let phase = c.args.phase in
    let some = c.if-is_empty.ensures in
    led_to_one machine phase c.args.set _ c.intersection-from.result (λ number. c.requires.leading.leads phase number c.requires.phase) c.intersection-from.ensures
    _ (λ number. c.requires.leading.reaches phase number c.requires.phase) c.if-has_one.ensures some.0 some.1
