-- `annotate_there` has the proof.
use Rattle.existence_laws.proofs.OutcomesThere.{annotate_there}
use Rattle.existence_laws.proofs.outcomes.annotate_has_an_outcome.Goals as goal

pub returns : goal.returns
returns c = annotate_there
