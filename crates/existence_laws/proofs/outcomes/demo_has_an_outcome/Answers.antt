-- `demo_there` has the proof.
use Rattle.existence_laws.proofs.OutcomesThere.{demo_there}
use Rattle.existence_laws.proofs.outcomes.demo_has_an_outcome.Goals as goal

pub returns : goal.returns
returns c = demo_there
