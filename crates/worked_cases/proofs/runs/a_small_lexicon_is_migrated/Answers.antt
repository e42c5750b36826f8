-- `small_run` has the proof.
use Rattle.worked_cases.proofs.SmallRuns.{small_run}
use Rattle.worked_cases.proofs.runs.a_small_lexicon_is_migrated.Goals as goal

pub returns : goal.returns
returns c = small_run
