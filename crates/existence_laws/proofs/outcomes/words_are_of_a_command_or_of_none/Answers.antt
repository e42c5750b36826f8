-- `command_or_none` has the proof.
use Rattle.existence_laws.proofs.CommandsThere.{command_or_none}
use Rattle.existence_laws.proofs.outcomes.words_are_of_a_command_or_of_none.Goals as goal

pub returns : goal.returns
returns c = command_or_none
