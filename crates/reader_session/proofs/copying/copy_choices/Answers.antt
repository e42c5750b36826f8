-- One choice more.
use Rattle.std.proofs.Common.{arith}
use Rattle.std.proofs.lemmas.Grind.{common_steps}
use Rattle.reader_session.proofs.copying.copy_choices.Goals as goal

pub loop-choice-preserved : goal.loop-choice-preserved
loop-choice-preserved c = grind (arith, common_steps)
