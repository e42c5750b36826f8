-- `check_there` has the proof.
use Rattle.existence_laws.proofs.OutcomesThere.{check_there}
use Rattle.existence_laws.proofs.outcomes.check_has_an_outcome.Goals as goal

pub returns : goal.returns
returns c = check_there
