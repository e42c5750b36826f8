-- `segment_there` has the proof.
use Rattle.existence_laws.proofs.OutcomesThere.{segment_there}
use Rattle.existence_laws.proofs.outcomes.segment_has_an_outcome.Goals as goal

pub returns : goal.returns
returns c = segment_there
