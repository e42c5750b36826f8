-- What serving some lines of the input changes, in the session and in the output (own).
use Rattle.std.specs.Prelude.{◌≡◌, ◌≢◌, ℕ, List, ◌++◌, Option, All}
use Rattle.outside.specs.Told.{bytes_after, GrowsByPrefix}
use Rattle.outside.specs.declared.sink.WriteError.{WriteError}
use Rattle.outside.specs.declared.sink.WriteError.TheVariants as write
use Rattle.lexicon_text_definitions.specs.FileLines.{Line, lines_of_bytes}
use Rattle.session_definitions.specs.SessionLines.{ended_lines}
use Rattle.session_definitions.specs.Replies as replies
use Rattle.session_definitions.specs.Sessions.{AreReplies}
use Rattle.reader_session.specs.SessionValues.{SessionValue, stands_after}
use Rattle.reader_session.specs.declared.after.After.{After}
use Rattle.reader_session.specs.declared.after.After.TheVariants.{Open}
use Rattle.reader_session.specs.declared.serve_end.ServeEnd.{ServeEnd}
use Rattle.reader_session.specs.declared.serve_end.ServeEnd.TheVariants as end

-- no byte is a line end
abbrev pub HasNoEnd : List ℕ → Type 0
HasNoEnd bytes = All (λ byte. byte ≢ 10) bytes

-- these lines, each with its line end, come first in the bytes and in all that goes on from them, and then what is left
pub record AreCutOff (bytes : List ℕ) (lines : List Line) (left : List ℕ) : Type 0 where
  pub ended : ended_lines lines ≡ lines
  pub first : (more : List ℕ) → lines_of_bytes (bytes ++ more) ≡ lines ++ lines_of_bytes (left ++ more)

-- just the replies to these lines were written, and the session stands as they left it, over the same lexicon
pub record HasServed (lines : List Line) (old new : SessionValue) (before now : Option (List ℕ)) (after : After) : Type 0 where
  pub output : List ℕ
  pub replies : AreReplies old.searched.lexicon old.state lines output (stands_after after new.state)
  pub wrote : now ≡ bytes_after before output
  pub searched : new.searched ≡ old.searched

-- a prefix was written of the replies to some of the first of these lines
pub record HasStopped (lines : List Line) (old : SessionValue) (before now : Option (List ℕ)) : Type 0 where
  pub served : List Line
  pub others : List Line
  pub first : lines ≡ served ++ others
  pub output : List ℕ
  pub after : replies.After
  pub replies : AreReplies old.searched.lexicon old.state served output after
  pub grown : GrowsByPrefix before now output

-- the lines that end within the bytes were served, and `rest` is what is left of them; or those up to one that ends the session
pub record HasServedWithin (bytes rest : List ℕ) (old new : SessionValue) (before now : Option (List ℕ)) (after : After)
    : Type 0 where
  pub lines : List Line
  pub left : List ℕ
  pub cut : AreCutOff bytes lines left
  pub served : HasServed lines old new before now after
  pub is_left : after ≡ Open → left ≡ rest
  pub no_end : after ≡ Open → HasNoEnd rest

-- serving stopped at one of the lines that end within the bytes
pub record HasStoppedWithin (bytes : List ℕ) (old : SessionValue) (before now : Option (List ℕ)) : Type 0 where
  pub lines : List Line
  pub left : List ℕ
  pub cut : AreCutOff bytes lines left
  pub stopped : HasStopped lines old before now

-- how serving ends where the sink answers this error
abbrev pub end_at : WriteError → ServeEnd
end_at write.Failed = end.WriteFault
end_at write.Memory = end.Memory
