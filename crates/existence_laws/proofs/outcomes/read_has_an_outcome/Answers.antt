-- `read_there` has the proof.
use Rattle.existence_laws.proofs.OutcomesThere.{read_there}
use Rattle.existence_laws.proofs.outcomes.read_has_an_outcome.Goals as goal

pub returns : goal.returns
returns c = read_there
