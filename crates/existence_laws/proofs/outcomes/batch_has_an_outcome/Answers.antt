-- `batch_there` has the proof.
use Rattle.existence_laws.proofs.OutcomesThere.{batch_there}
use Rattle.existence_laws.proofs.outcomes.batch_has_an_outcome.Goals as goal

pub returns : goal.returns
returns c = batch_there
