-- What serving a session leaves of its input and of its output (own).
use Rattle.std.specs.Prelude.{◌≡◌, List, ℕ, ◌++◌, Option, Some}
use Rattle.outside.specs.Told.{GrowsByPrefix}
use Rattle.lexicon_definitions.specs.Lexicons.{Lexicon}
use Rattle.lexicon_text_definitions.specs.FileLines.{Line, lines_of_bytes}
use Rattle.session_definitions.specs.SessionLines.{lines_of_input, ended_lines}
use Rattle.session_definitions.specs.States.{State, opening}
use Rattle.session_definitions.specs.Replies.{After, Open}
use Rattle.session_definitions.specs.Sessions as sessions
use Rattle.session_definitions.specs.Sessions.{End, AreReplies, IsSession}
use Rattle.reader_session.specs.declared.serve_end.ServeEnd.{ServeEnd}
use Rattle.reader_session.specs.declared.serve_end.ServeEnd.TheVariants.{Done, Memory, ReadFault, WriteFault, TooMuch}

-- it tells this end of a session; want of memory and the faults of devices are no ends
abbrev pub Tells : ServeEnd → End → Type 0
Tells Done end = end ≡ sessions.Done
Tells TooMuch end = end ≡ sessions.TooMuch
Tells Memory end = ⊥
Tells ReadFault end = ⊥
Tells WriteFault end = ⊥

-- it is the end of a session, and neither want of memory nor the fault of a device
abbrev pub IsEnd : ServeEnd → Type 0
IsEnd Done = Unit {0}
IsEnd TooMuch = Unit {0}
IsEnd Memory = ⊥
IsEnd ReadFault = ⊥
IsEnd WriteFault = ⊥

-- all that the session of the input writes was written, and it ended so
pub record WroteSession (lexicon : Lexicon) (input old : List ℕ) (written : Option (List ℕ)) (result : ServeEnd) : Type 0 where
  pub output : List ℕ
  pub end : End
  pub session : IsSession lexicon input output end
  pub wrote : written ≡ Some (old ++ output)
  pub tells : Tells result end

-- a prefix was written of the replies to some of the first lines of the input
pub record WroteFront (lexicon : Lexicon) (input : List ℕ) (old new : Option (List ℕ)) : Type 0 where
  pub lines : List Line
  pub others : List Line
  pub first : lines_of_input input ≡ lines ++ others
  pub output : List ℕ
  pub after : After
  pub replies : AreReplies lexicon opening lines output after
  pub grown : GrowsByPrefix old new output

-- just the replies were written to all the complete lines among the bytes that were taken, none of which ends the session
pub record RepliedToTaken (lexicon : Lexicon) (input old : List ℕ) (left written : Option (List ℕ)) : Type 0 where
  pub taken : List ℕ
  pub others : List ℕ
  pub input_is : input ≡ taken ++ others
  pub left_is : left ≡ Some others
  pub output : List ℕ
  pub state : State
  pub replies : AreReplies lexicon opening (ended_lines (lines_of_bytes taken)) output (Open state)
  pub wrote : written ≡ Some (old ++ output)
