-- Some list leads to the number, and goes on to a word.
use Rattle.phase_automaton.proofs.NumberedStates.{leads_on}
use Rattle.phase_automaton.proofs.state_laws.numbered_states_lead_on.Goals as goal

pub returns : goal.returns
returns c machine grammar number recognized = leads_on machine grammar recognized number
