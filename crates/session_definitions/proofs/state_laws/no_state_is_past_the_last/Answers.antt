-- Each reply keeps the session before the last answer's end.
use Rattle.session_definitions.proofs.NeverPastLast.{never_past}
use Rattle.session_definitions.proofs.state_laws.no_state_is_past_the_last.Goals as goal

pub returns : goal.returns
returns c = never_past
