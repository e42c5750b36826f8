-- One line more.
use Rattle.std.proofs.Common.{arith}
use Rattle.std.proofs.lemmas.Grind.{common_steps}
use Rattle.reader_session.proofs.tags_printing.push_tags.Goals as goal

pub loop-analysis-preserved : goal.loop-analysis-preserved
loop-analysis-preserved c = grind (arith, common_steps)
