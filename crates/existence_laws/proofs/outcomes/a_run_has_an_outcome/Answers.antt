-- `outcome_there` has the proof.
use Rattle.existence_laws.proofs.OutcomesThere.{outcome_there, so_far_there}
use Rattle.existence_laws.proofs.outcomes.a_run_has_an_outcome.Goals as goal

pub returns : goal.returns
returns c = record { outcome = outcome_there; so_far = so_far_there }
