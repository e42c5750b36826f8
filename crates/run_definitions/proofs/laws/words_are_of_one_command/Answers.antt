-- The words tell the command's name, values and arguments.
use Rattle.run_definitions.proofs.OneCommand.{one_command}
use Rattle.run_definitions.proofs.laws.words_are_of_one_command.Goals as goal

pub returns : goal.returns
returns c = one_command
