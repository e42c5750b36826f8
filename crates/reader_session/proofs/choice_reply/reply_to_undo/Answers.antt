-- The newest choice was taken back, or there is none.
use Rattle.std.proofs.Common.{arith}
use Rattle.std.proofs.lemmas.Grind.{common_steps}
use Rattle.reader_session.proofs.choice_reply.reply_to_undo.Goals as goal

pub returns : goal.returns
returns c = grind (arith, common_steps)
