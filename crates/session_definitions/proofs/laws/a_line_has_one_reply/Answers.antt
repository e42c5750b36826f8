-- Replies of two requests exclude each other, and those of one are the same.
use Rattle.session_definitions.proofs.OneReply.{one_reply}
use Rattle.session_definitions.proofs.laws.a_line_has_one_reply.Goals as goal

pub returns : goal.returns
returns c = one_reply
