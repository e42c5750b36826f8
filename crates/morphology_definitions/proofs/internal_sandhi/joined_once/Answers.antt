use Rattle.morphology_definitions.proofs.JoinedWord.{IsJoined-once}
use Rattle.morphology_definitions.proofs.internal_sandhi.joined_once.Goals as goal

pub returns : goal.returns
returns c = IsJoined-once
