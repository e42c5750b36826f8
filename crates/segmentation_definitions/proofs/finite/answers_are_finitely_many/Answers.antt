-- The keys of an answer, read as digits, are a number; rising answers are rising numbers below the bound.
use Rattle.segmentation_definitions.proofs.KeyNumbers.{answers_bounded}
use Rattle.segmentation_definitions.proofs.finite.answers_are_finitely_many.Goals as goal

pub returns : goal.returns
returns c = record { bound = answers_bounded }
