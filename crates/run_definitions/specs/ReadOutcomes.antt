-- The words of `read`, and what it does with the name of a lexicon file and the input (own).
use Rattle.std.specs.Prelude.{◌≡◌, ℕ, ◌++◌, List, [], ◌∷◌, Option, Some, codes}
use Rattle.outside.specs.Files.{Files}
use Rattle.lexicon_definitions.specs.Lexicons.{Lexicon}
use Rattle.lexicon_text_definitions.specs.FileLines.{Line}
use Rattle.session_definitions.specs.SessionLines.{lines_of_input}
use Rattle.session_definitions.specs.States.{opening}
use Rattle.session_definitions.specs.Replies.{After}
use Rattle.session_definitions.specs.Sessions as sessions
use Rattle.session_definitions.specs.Sessions.{AreReplies, IsSession}
use Rattle.run_definitions.specs.Arguments.{FileWord, AreNamed}
use Rattle.run_definitions.specs.Ends.{Outcome, End, Done, TooMuch, ReadFault, BadFile, outcome_over}
use Rattle.run_definitions.specs.Refusals.{file_refusal, usage_outcome}
use Rattle.run_definitions.specs.LexiconTells.{FileTells, NotThere, Refused, Holds, DoesTell}

-- ---- the words

-- it takes the name of a lexicon file
abbrev pub TakesRead : FileWord → List (List ℕ) → List FileWord → Type 0
TakesRead lex values arguments = (values ≡ []) × (arguments ≡ lex ∷ [])

-- the words are those of `read` with this name
abbrev pub AreReadWords : FileWord → List (List ℕ) → Type 0
AreReadWords lex words = AreNamed (codes "read") (TakesRead lex) words

-- where the words are those of `read` and its file has a lexicon, the input is told
abbrev pub IsToldWhereServed : List (List ℕ) → Files → Option (List ℕ) → Type 0
IsToldWhereServed words files input =
    (lex : FileWord) (lexicon : Lexicon) → AreReadWords lex words → DoesTell files lex.name (Holds lexicon)
    → (bytes : List ℕ) × (input ≡ Some bytes)

-- ---- the outcome

-- how a run ends with the session that it served
abbrev pub end_with : sessions.End → End
end_with sessions.Done = Done
end_with sessions.TooMuch = TooMuch

-- the session of the told input is written, and the run ends with it
pub record IsSessionOutcome (lexicon : Lexicon) (input : Option (List ℕ)) (files : Files) (outcome : Outcome) : Type 0 where
  pub told : List ℕ
  pub is_told : input ≡ Some told
  pub output : List ℕ
  pub end : sessions.End
  pub session : IsSession lexicon told output end
  pub is : outcome ≡ outcome_over files output (end_with end)

-- by what the file tells: nothing is written, its refusal is, or the session is
abbrev pub IsReadOutcomeWith : FileTells → FileWord → Files → Option (List ℕ) → Outcome → Type 0
IsReadOutcomeWith NotThere lex files input outcome = outcome ≡ outcome_over files [] ReadFault
IsReadOutcomeWith (Refused fault) lex files input outcome =
    outcome ≡ outcome_over files (file_refusal lex.name fault) (BadFile lex.place fault)
IsReadOutcomeWith (Holds lexicon) lex files input outcome = IsSessionOutcome lexicon input files outcome

-- the outcome of `read` with this name of a file and this input
pub record IsReadOutcome (lex : FileWord) (files : Files) (input : Option (List ℕ)) (outcome : Outcome) : Type 0 where
  pub tells : FileTells
  pub does_tell : DoesTell files lex.name tells
  pub is_outcome : IsReadOutcomeWith tells lex files input outcome

-- ---- the run

-- the outcome of a run whose first word is `read`: that of the command, or where the words are not its words `usage`
pub data IsReadRun (words : List (List ℕ)) (files : Files) (input : Option (List ℕ)) (outcome : Outcome) : Type 0 where
  OfWords : (lex : FileWord) → AreReadWords lex words → IsReadOutcome lex files input outcome → IsReadRun words files input outcome
  OfOthers : ((lex : FileWord) → AreReadWords lex words → ⊥) → outcome ≡ usage_outcome files → IsReadRun words files input outcome

-- ---- what is written where a run stops

-- these are the replies to some of the first lines of the told input
pub record AreFirstReplies (lexicon : Lexicon) (input : Option (List ℕ)) (output : List ℕ) : Type 0 where
  pub told : List ℕ
  pub is_told : input ≡ Some told
  pub lines : List Line
  pub others : List Line
  pub first : lines_of_input told ≡ lines ++ others
  pub after : After
  pub replies : AreReplies lexicon opening lines output after

-- by what the file tells: nothing, its refusal, or the replies to some of the first lines
abbrev pub IsReadSoFarWith : FileTells → FileWord → Option (List ℕ) → List ℕ → Type 0
IsReadSoFarWith NotThere lex input output = output ≡ []
IsReadSoFarWith (Refused fault) lex input output = output ≡ file_refusal lex.name fault
IsReadSoFarWith (Holds lexicon) lex input output = AreFirstReplies lexicon input output

-- what `read` may have come to write, with this name of a file and this input
pub record IsReadSoFar (lex : FileWord) (files : Files) (input : Option (List ℕ)) (output : List ℕ) : Type 0 where
  pub tells : FileTells
  pub does_tell : DoesTell files lex.name tells
  pub is_output : IsReadSoFarWith tells lex input output
