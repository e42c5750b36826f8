-- `session_there` has the proof.
use Rattle.existence_laws.proofs.SessionsThere.{session_there}
use Rattle.existence_laws.proofs.sessions.an_input_has_a_session.Goals as goal

pub returns : goal.returns
returns c = λ lexicon input is. session_there lexicon is input
