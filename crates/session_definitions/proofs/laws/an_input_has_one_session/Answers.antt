-- The lines of the input have one list of replies.
use Rattle.session_definitions.proofs.OneSession.{one_session}
use Rattle.session_definitions.proofs.laws.an_input_has_one_session.Goals as goal

pub returns : goal.returns
returns c = one_session
