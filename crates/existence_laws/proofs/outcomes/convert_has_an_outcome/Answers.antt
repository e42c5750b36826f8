-- `convert_there` has the proof.
use Rattle.existence_laws.proofs.OutcomesThere.{convert_there}
use Rattle.existence_laws.proofs.outcomes.convert_has_an_outcome.Goals as goal

pub returns : goal.returns
returns c = convert_there
