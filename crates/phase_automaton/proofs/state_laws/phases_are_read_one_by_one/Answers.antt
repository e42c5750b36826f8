-- A fold over two lists.
use Rattle.phase_automaton.proofs.NumberedStates.{state_from-append, state_after-push}
use Rattle.phase_automaton.proofs.state_laws.phases_are_read_one_by_one.Goals as goal

pub returns-clause-front : goal.returns-clause-front
returns-clause-front c = state_from-append

pub returns-clause-last : goal.returns-clause-last
returns-clause-last c = state_after-push
