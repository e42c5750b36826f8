-- Words of a command begin with its name.
use Rattle.run_definitions.proofs.OneCommandAlone.{none_alone}
use Rattle.run_definitions.proofs.command_laws.other_words_alone.Goals as goal

pub returns : goal.returns
returns c = none_alone
