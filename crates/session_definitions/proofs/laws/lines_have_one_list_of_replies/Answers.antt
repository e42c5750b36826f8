-- Line after line, each with its one reply.
use Rattle.session_definitions.proofs.OneSession.{one_list_of_replies}
use Rattle.session_definitions.proofs.laws.lines_have_one_list_of_replies.Goals as goal

pub returns : goal.returns
returns c lexicon state lines = one_list_of_replies lexicon lines state
