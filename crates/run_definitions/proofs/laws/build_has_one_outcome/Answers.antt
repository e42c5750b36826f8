-- Each file tells one thing, and the sources have one lexicon.
use Rattle.run_definitions.proofs.OneBuildOutcome.{one_build_outcome}
use Rattle.run_definitions.proofs.laws.build_has_one_outcome.Goals as goal

pub returns : goal.returns
returns c = one_build_outcome
