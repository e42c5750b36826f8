-- Each choice has its phase where the test holds of all.
use Rattle.std.proofs.Common.{arith}
use Rattle.std.proofs.lemmas.Grind.{common_steps}
use Rattle.reader_session.proofs.resume_reply.has_phases.Goals as goal

pub returns : goal.returns
returns c = grind (arith, common_steps)
