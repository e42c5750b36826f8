-- The lemmas on numbers and states.
use Rattle.phase_automaton.proofs.NumberedStates.{after_is, same_numbers, live_state, each_state}
use Rattle.phase_automaton.proofs.state_laws.numbers_stand_for_states.Goals as goal

pub returns-clause-after : goal.returns-clause-after
returns-clause-after c machine grammar recognized phases state = after_is machine grammar recognized phases state

pub returns-clause-same : goal.returns-clause-same
returns-clause-same c machine grammar left right first second recognized = same_numbers machine grammar recognized left right first second

pub returns-clause-live : goal.returns-clause-live
returns-clause-live c machine grammar phases state recognized = live_state machine grammar recognized phases state

pub returns-clause-each : goal.returns-clause-each
returns-clause-each c machine grammar recognized state = each_state machine grammar recognized state
