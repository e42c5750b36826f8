-- A whole session: what is written for all of its input, and how it ends (own).
use Rattle.std.specs.Prelude.{◌≡◌, ℕ, if◌then◌else◌, List, [], ◌∷◌, ◌++◌}
use Rattle.lexicon_definitions.specs.Lexicons.{Lexicon}
use Rattle.lexicon_text_definitions.specs.FileLines as file
use Rattle.session_definitions.specs.SessionLines.{fits_session, lines_of_input}
use Rattle.session_definitions.specs.States.{State, opening}
use Rattle.session_definitions.specs.Replies.{After, Open, Over, Reply, IsReply}

-- how a session ends: with `quit` or with its input, or since its input is too long
pub data End : Type 0 where
  Done : End
  TooMuch : End

-- after a reply, nothing more is written where the session has ended, and else what is written from its state on
abbrev pub IsWrittenAfter : After → (State → List ℕ → After → Type 0) → List ℕ → After → Type 0
IsWrittenAfter (Open state) is_written output after = is_written state output after
IsWrittenAfter Over is_written output after = (output ≡ []) × (after ≡ Over)

-- what is written for these lines from this state on, and how the session stands after them: the replies one after another,
-- up to the one that ends it
abbrev pub AreReplies : Lexicon → State → List file.Line → List ℕ → After → Type 0
AreReplies lexicon state [] output after = (output ≡ []) × (after ≡ Open state)
AreReplies lexicon state (line ∷ lines) output after =
    (reply : Reply) × (rest : List ℕ) × IsReply lexicon state line reply × (output ≡ reply.bytes ++ rest)
    × IsWrittenAfter reply.after (λ state rest after. AreReplies lexicon state lines rest after) rest after

-- a session that ended by `quit` is done; one that comes to the end of the lines is done where the input is not too long
abbrev pub end_of : After → List ℕ → End
end_of Over input = Done
end_of (Open state) input = if fits_session input then Done else TooMuch

-- the session of an input over a lexicon: what is written for its lines from the opening state on, and how it ends
pub record IsSession (lexicon : Lexicon) (input output : List ℕ) (end : End) : Type 0 where
  pub after : After
  pub replies : AreReplies lexicon opening (lines_of_input input) output after
  pub ends : end ≡ end_of after input
