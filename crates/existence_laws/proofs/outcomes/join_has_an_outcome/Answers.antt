-- `join_there` has the proof.
use Rattle.existence_laws.proofs.OutcomesThere.{join_there}
use Rattle.existence_laws.proofs.outcomes.join_has_an_outcome.Goals as goal

pub returns : goal.returns
returns c = join_there
