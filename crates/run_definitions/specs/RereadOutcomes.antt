-- The words of `reread`, and what it does with the names of a lexicon file and a file of a note (own).
use Rattle.std.specs.Prelude.{◌≡◌, ℕ, false, List, [], ◌∷◌, codes}
use Rattle.outside.specs.Files.{Files}
use Rattle.lexicon_definitions.specs.Lexicons.{Lexicon}
use Rattle.segmentation_definitions.specs.PrintedAnswers.{printed_page}
use Rattle.note_definitions.specs.Notes as notes
use Rattle.note_definitions.specs.NoteReadings.{IsNoteRead}
use Rattle.run_definitions.specs.Arguments.{FileWord, AreNamed}
use Rattle.run_definitions.specs.Ends.{Outcome, Note, Done, ReadFault, BadFile, outcome_over}
use Rattle.run_definitions.specs.Refusals.{file_refusal, usage_outcome}
use Rattle.run_definitions.specs.LexiconTells as lexicons
use Rattle.run_definitions.specs.LexiconTells.{FileTells, NotThere, DoesTell}
use Rattle.run_definitions.specs.SourceTells.{SourceTells, DoesTellSource, IsOutcomeAfter}

-- ---- the words

-- it takes the names of a lexicon file and of a file of a note
abbrev pub TakesReread : FileWord → FileWord → List (List ℕ) → List FileWord → Type 0
TakesReread lex file values arguments = (values ≡ []) × (arguments ≡ lex ∷ file ∷ [])

-- the words are those of `reread` with these
abbrev pub AreRereadWords : FileWord → FileWord → List (List ℕ) → Type 0
AreRereadWords lex file words = AreNamed (codes "reread") (TakesReread lex file) words

-- ---- the outcome

-- what the file of a note tells over a lexicon
abbrev pub NoteTells : Lexicon → Files → List ℕ → SourceTells notes.Note → Type 0
NoteTells lexicon files name tells = DoesTellSource (IsNoteRead lexicon) Note files name tells

-- the answer of the note is written with the number 1, and `end`
abbrev pub IsRereadNoteOutcome : Lexicon → notes.Note → Files → Outcome → Type 0
IsRereadNoteOutcome lexicon note files outcome =
    outcome ≡ outcome_over files (printed_page lexicon.rules 1 (note.steps ∷ []) false) Done

-- with the lexicon, the note is read
pub record IsNoteFileOutcome (lexicon : Lexicon) (file : FileWord) (files : Files) (outcome : Outcome) : Type 0 where
  pub tells : SourceTells notes.Note
  pub do_tell : NoteTells lexicon files file.name tells
  pub is_outcome : IsOutcomeAfter tells file files outcome (λ note. IsRereadNoteOutcome lexicon note files outcome)

-- by what the lexicon file tells: nothing is written, its refusal is, or it goes on with the file of the note
abbrev pub IsRereadOutcomeWith : FileTells → FileWord → FileWord → Files → Outcome → Type 0
IsRereadOutcomeWith NotThere lex file files outcome = outcome ≡ outcome_over files [] ReadFault
IsRereadOutcomeWith (lexicons.Refused fault) lex file files outcome =
    outcome ≡ outcome_over files (file_refusal lex.name fault) (BadFile lex.place fault)
IsRereadOutcomeWith (lexicons.Holds lexicon) lex file files outcome = IsNoteFileOutcome lexicon file files outcome

-- the outcome of `reread` with these names of files
pub record IsRereadOutcome (lex file : FileWord) (files : Files) (outcome : Outcome) : Type 0 where
  pub tells : FileTells
  pub does_tell : DoesTell files lex.name tells
  pub is_outcome : IsRereadOutcomeWith tells lex file files outcome

-- ---- the run

-- the outcome of a run whose first word is `reread`: that of the command, or where the words are not its words `usage`
pub data IsRereadRun (words : List (List ℕ)) (files : Files) (outcome : Outcome) : Type 0 where
  OfWords : (lex file : FileWord) → AreRereadWords lex file words → IsRereadOutcome lex file files outcome
      → IsRereadRun words files outcome
  OfOthers : ((lex file : FileWord) → AreRereadWords lex file words → ⊥) → outcome ≡ usage_outcome files
      → IsRereadRun words files outcome
