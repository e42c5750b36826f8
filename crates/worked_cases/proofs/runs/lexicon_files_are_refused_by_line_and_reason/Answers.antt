-- Computed.
use Rattle.std.specs.Prelude.{refl}
use Rattle.std.specs.Fmt.{digits}
use Rattle.worked_cases.proofs.runs.lexicon_files_are_refused_by_line_and_reason.Goals as goal

pub returns-clause-unlimited : goal.returns-clause-unlimited
unfolding digits
returns-clause-unlimited c = refl

pub returns-clause-long : goal.returns-clause-long
unfolding digits
returns-clause-long c = refl
