use Rattle.morphology_definitions.proofs.JoinedWord.{length-IsJoined, IsJoined-front}
use Rattle.morphology_definitions.proofs.internal_sandhi.joined_begins_with_front.Goals as goal

pub returns : goal.returns
returns c = record { length = length-IsJoined; front = IsJoined-front }
