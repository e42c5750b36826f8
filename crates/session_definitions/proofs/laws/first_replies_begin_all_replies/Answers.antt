-- Along the first lines, each with its one reply.
use Rattle.session_definitions.proofs.FrontReplies.{begun, joined}
use Rattle.session_definitions.proofs.laws.first_replies_begin_all_replies.Goals as goal

pub returns-clause-begun : goal.returns-clause-begun
returns-clause-begun c = begun

pub returns-clause-joined : goal.returns-clause-joined
returns-clause-joined c = joined
