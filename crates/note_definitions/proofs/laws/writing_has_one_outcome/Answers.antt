-- By the cases of both outcomes.
use Rattle.note_definitions.proofs.OneOutcome.{same_outcome}
use Rattle.note_definitions.proofs.laws.writing_has_one_outcome.Goals as goal

pub returns : goal.returns
returns c = same_outcome
