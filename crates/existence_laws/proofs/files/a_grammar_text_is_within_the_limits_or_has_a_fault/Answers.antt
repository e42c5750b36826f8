-- `first_fault_there` has the proof.
use Rattle.existence_laws.proofs.StateDecisions.{first_fault_there}
use Rattle.existence_laws.proofs.files.a_grammar_text_is_within_the_limits_or_has_a_fault.Goals as goal

pub returns : goal.returns
returns c = first_fault_there
