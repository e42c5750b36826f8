-- `build_there` has the proof.
use Rattle.existence_laws.proofs.OutcomesThere.{build_there}
use Rattle.existence_laws.proofs.outcomes.build_has_an_outcome.Goals as goal

pub returns : goal.returns
returns c = build_there
