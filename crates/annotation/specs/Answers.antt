-- What the calls that write a note answer (own).
use Rattle.std.specs.Prelude.{◌≡◌, ℕ, Option, Some, None, Result, Ok, Err, List, length, Vec}
use Rattle.std.specs.Global.{Global}
use Rattle.text_definitions.specs.Lines.{Line}
use Rattle.lexicon_definitions.specs.Lexicons.{Lexicon}
use Rattle.segmentation_definitions.specs.Derivations.{Step as AnswerStep}
use Rattle.segmentation_definitions.specs.Items.{Choice}
use Rattle.segmentation_definitions.specs.Listings.{AtAnswer}
use Rattle.derivation.specs.declared.step.Step.{Step}
use Rattle.derivation.specs.Steps.{StandIn, steps_of, keys_meant}
use Rattle.segmenter.specs.Searches.{SearchValue, MovedOn, HasEnded, IsCurrent}
use Rattle.note_definitions.specs.Notes.{IsOnlyAnswer}
use Rattle.note_definitions.specs.NoteTexts.{text_of_note}
use Rattle.note_definitions.specs.NoteOutcomes as outcomes
use Rattle.note_definitions.specs.NoteOutcomes.{Written, IsOutcome}
use Rattle.annotation.specs.declared.error.NoteError.{NoteError}
use Rattle.annotation.specs.declared.written_note.WrittenNote.{WrittenNote}
use Rattle.annotation.specs.declared.error.NoteError.TheVariants.{NoAnswer, Several, Memory}

-- no note was written for this reason; memory may be wanting
abbrev pub IsRefused : Lexicon → Line → List Choice → NoteError → Type 0
IsRefused lexicon line choices NoAnswer = IsOutcome lexicon line choices outcomes.NoAnswer
IsRefused lexicon line choices (Several first second) =
    IsOutcome lexicon line choices (outcomes.Several (keys_meant first.items) (keys_meant second.items))
IsRefused lexicon line choices Memory = Unit {0}

-- the text of the note, or why it was not written
abbrev pub IsNoteWritten : Lexicon → Line → List Choice → Result (Vec ℕ Global) NoteError → Type 0
IsNoteWritten lexicon line choices (Ok bytes) = IsOutcome lexicon line choices (Written bytes.items)
IsNoteWritten lexicon line choices (Err error) = IsRefused lexicon line choices error

-- the note is that of the only answer, and has as many segments as this has steps
pub record IsCounted (lexicon : Lexicon) (line : Line) (choices : List Choice) (note : WrittenNote) : Type 0 where
  pub steps : List AnswerStep
  pub answer : IsOnlyAnswer lexicon line choices steps
  pub text : note.text.items ≡ text_of_note lexicon (record { line = line; choices = choices; steps = steps })
  pub segments : note.segments ≡ length steps

-- the same, or why no note was written
abbrev pub IsCountedNote : Lexicon → Line → List Choice → Result WrittenNote NoteError → Type 0
IsCountedNote lexicon line choices (Ok note) = IsCounted lexicon line choices note
IsCountedNote lexicon line choices (Err error) = IsRefused lexicon line choices error

-- these are the program's steps of the only answer
pub record AreOnly (lexicon : Lexicon) (line : Line) (choices : List Choice) (steps : List Step) : Type 0 where
  pub stand : StandIn lexicon.rules line.letters steps
  pub answer : IsOnlyAnswer lexicon line choices (steps_of lexicon.rules line.letters steps)

-- these are the program's steps of the answer at which the search stands, if it stands at one
abbrev pub AreCurrent : SearchValue → List Step → Type 0
AreCurrent search steps = (answer : List AnswerStep) → search.cursor ≡ AtAnswer answer → IsCurrent search (Some steps)

-- the search has moved to the next answer, and these are its steps
pub record HasNextSteps (old new : SearchValue) (steps : List Step) : Type 0 where
  pub moved : MovedOn old new
  pub current : AreCurrent new steps

-- it has moved to the next answer, or no answer was left
abbrev pub HasSteps : SearchValue → SearchValue → Option (Vec Step Global) → Type 0
HasSteps old new None = HasEnded old new
HasSteps old new (Some steps) = HasNextSteps old new steps.items

-- the steps of the only answer, or why there is none
abbrev pub IsOnlyFound : Lexicon → Line → List Choice → Result (Vec Step Global) NoteError → Type 0
IsOnlyFound lexicon line choices (Ok steps) = AreOnly lexicon line choices steps.items
IsOnlyFound lexicon line choices (Err error) = IsRefused lexicon line choices error
