-- `reply_there` has the proof.
use Rattle.existence_laws.proofs.SessionsThere.{reply_there}
use Rattle.existence_laws.proofs.sessions.a_line_has_a_reply.Goals as goal

pub returns : goal.returns
returns c = λ lexicon state line is. reply_there lexicon is state line
