-- `reread_there` has the proof.
use Rattle.existence_laws.proofs.OutcomesThere.{reread_there}
use Rattle.existence_laws.proofs.outcomes.reread_has_an_outcome.Goals as goal

pub returns : goal.returns
returns c = reread_there
