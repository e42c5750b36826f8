-- Each file and the text are read in one way, and the page is one.
use Rattle.run_definitions.proofs.OneDemoOutcome.{one_demo_outcome}
use Rattle.run_definitions.proofs.laws.demo_has_one_outcome.Goals as goal

pub returns : goal.returns
returns c = one_demo_outcome
