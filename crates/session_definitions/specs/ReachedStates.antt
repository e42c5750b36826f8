-- The states to which a session comes (own).
use Rattle.std.specs.Prelude.{ℕ, List}
use Rattle.lexicon_definitions.specs.Lexicons.{Lexicon}
use Rattle.lexicon_text_definitions.specs.FileLines as file
use Rattle.session_definitions.specs.States.{State, opening}
use Rattle.session_definitions.specs.Replies.{Open}
use Rattle.session_definitions.specs.Sessions.{AreReplies}

-- after the replies to some lines a session over the lexicon goes on in this state
pub record IsReached (lexicon : Lexicon) (state : State) : Type 0 where
  pub lines : List file.Line
  pub output : List ℕ
  pub replies : AreReplies lexicon opening lines output (Open state)
