-- What the text file tells is computed from its bytes.
use Rattle.run_definitions.proofs.OneConvertOutcome.{one_convert_outcome}
use Rattle.run_definitions.proofs.laws.convert_has_one_outcome.Goals as goal

pub returns : goal.returns
returns c = one_convert_outcome
