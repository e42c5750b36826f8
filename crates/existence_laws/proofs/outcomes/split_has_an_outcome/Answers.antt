-- `split_there` has the proof.
use Rattle.existence_laws.proofs.OutcomesThere.{split_there}
use Rattle.existence_laws.proofs.outcomes.split_has_an_outcome.Goals as goal

pub returns : goal.returns
returns c = split_there
