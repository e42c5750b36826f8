-- `migrate_there` has the proof.
use Rattle.existence_laws.proofs.OutcomesThere.{migrate_there}
use Rattle.existence_laws.proofs.outcomes.migrate_has_an_outcome.Goals as goal

pub returns : goal.returns
returns c = migrate_there
