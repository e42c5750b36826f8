-- By recursion on the phases; a row has a step for each phase and no other.
use Rattle.phase_automaton.proofs.NumberedStates.{stays_dead, no_phase}
use Rattle.phase_automaton.proofs.state_laws.the_dead_state_stays_dead.Goals as goal

pub returns-clause-stays : goal.returns-clause-stays
returns-clause-stays c = stays_dead

pub returns-clause-no_phase : goal.returns-clause-no_phase
returns-clause-no_phase c = no_phase
