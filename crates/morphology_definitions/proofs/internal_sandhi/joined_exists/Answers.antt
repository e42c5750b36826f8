use Rattle.morphology_definitions.proofs.JoinedExists.{IsJoined-exists}
use Rattle.morphology_definitions.proofs.internal_sandhi.joined_exists.Goals as goal

pub returns : goal.returns
returns c = IsJoined-exists
