-- What the call that reads a note answers (own).
use Rattle.std.specs.Prelude.{◌≡◌, ℕ, nat_lt, if◌then◌else◌, Option, Some, None, option_and_then, Result, Ok, Err, List, length, Vec}
use Rattle.std.specs.Global.{Global}
use Rattle.serde_json.specs.Data.{Data}
use Rattle.text_definitions.specs.Lines.{Line}
use Rattle.lexicon_definitions.specs.Lexicons.{Lexicon}
use Rattle.segmentation_definitions.specs.Derivations.{Step}
use Rattle.segmentation_definitions.specs.Items.{Choice as ChoiceValue}
use Rattle.bookmark_definitions.specs.BookmarkReadings.{choice_of}
use Rattle.derivation.specs.declared.step.Step.{Step as ProgramStep}
use Rattle.derivation.specs.Steps.{StandIn, steps_of}
use Rattle.note_definitions.specs.NoteFaults as faults
use Rattle.note_definitions.specs.NoteFaults.{Why}
use Rattle.note_definitions.specs.Notes.{Note, IsOnlyAnswer}
use Rattle.note_definitions.specs.NoteReadings.{Told, IsNoteRead}
use Rattle.annotation.specs.Answers.{AreOnly}
use Rattle.annotation.specs.declared.note.Note.{Note as ProgramNote}
use Rattle.annotation.specs.declared.read_error.NoteWhy.{NoteWhy}
use Rattle.annotation.specs.declared.read_error.NoteWhy.TheVariants.{Json, Shape, Text, Choice, NotOnly, Segments}
use Rattle.annotation.specs.declared.read_error.ReadNoteError.{ReadNoteError}
use Rattle.annotation.specs.declared.read_error.ReadNoteError.TheVariants.{Fault, Memory}
use Rattle.annotation.specs.declared.told.Told.{Told as ProgramTold}

-- the note of the definitions for which the program's one stands
abbrev pub note_of : Lexicon → ProgramNote → Note
note_of lexicon note =
    record { line = note.line; choices = note.choices; steps = steps_of lexicon.rules note.line.letters note.steps.items }

-- the reason of the definitions for which the program's one stands
abbrev pub why_of : NoteWhy → Why
why_of Json = faults.Json
why_of Shape = faults.Shape
why_of Text = faults.Text
why_of Choice = faults.Choice
why_of NotOnly = faults.NotOnly
why_of Segments = faults.Segments

-- the bytes are read as this note, and its steps stand in its line
pub record IsGiven (lexicon : Lexicon) (bytes : List ℕ) (note : ProgramNote) : Type 0 where
  pub stand : StandIn lexicon.rules note.line.letters note.steps.items
  pub read : IsNoteRead lexicon bytes (Ok (note_of lexicon note))

-- the note that the bytes are, or their first fault; memory may be wanting
abbrev pub IsNoteReadAs : Lexicon → List ℕ → Result ProgramNote ReadNoteError → Type 0
IsNoteReadAs lexicon bytes (Ok note) = IsGiven lexicon bytes note
IsNoteReadAs lexicon bytes (Err (Fault why)) = IsNoteRead lexicon bytes (Err (why_of why))
IsNoteReadAs lexicon bytes (Err Memory) = Unit {0}

-- the answer is a note of this line and these choices; memory may be wanting
abbrev pub IsReadBack : Line → List ChoiceValue → Result ProgramNote ReadNoteError → Type 0
IsReadBack line choices (Ok note) = (note.line ≡ line) × (note.choices ≡ choices)
IsReadBack line choices (Err (Fault why)) = ⊥
IsReadBack line choices (Err Memory) = Unit {0}

-- ---- for private clauses

-- the answer stands for what is told; this fault comes only where nothing is told; memory may be wanting
abbrev pub IsReadOr : {A B : Type 0} → Why → Result B ReadNoteError → Option A → (B → A) → Type 0
IsReadOr why (Ok read) told value = told ≡ Some (value read)
IsReadOr why (Err (Fault fault)) told value = (why_of fault ≡ why) × (told ≡ None)
IsReadOr why (Err Memory) told value = Unit {0}

-- the answer stands for what is told, or it is the fault that is told; memory may be wanting
abbrev pub IsToldAs : {A B : Type 0} → Result B ReadNoteError → Result A Why → (B → A) → Type 0
IsToldAs (Ok read) told value = told ≡ Ok (value read)
IsToldAs (Err (Fault fault)) told value = told ≡ Err (why_of fault)
IsToldAs (Err Memory) told value = Unit {0}

-- the program's steps of the only answer, or that there is not exactly one; memory may be wanting
abbrev pub AreStepsTold : Lexicon → Line → List ChoiceValue → Result (Vec ProgramStep Global) ReadNoteError → Type 0
AreStepsTold lexicon line choices (Ok steps) = AreOnly lexicon line choices steps.items
AreStepsTold lexicon line choices (Err (Fault why)) =
    (why_of why ≡ faults.NotOnly) × ((steps : List Step) → IsOnlyAnswer lexicon line choices steps → ⊥)
AreStepsTold lexicon line choices (Err Memory) = Unit {0}

-- what is told beside this value
abbrev pub told_of : Data → ProgramTold → Told
told_of value told = record { value = value; line = told.line; choices = told.choices }

-- the choice, where the lexicon has the phase of its item
abbrev pub if_phase : Lexicon → ChoiceValue → Option ChoiceValue
if_phase lexicon choice = if nat_lt choice.item.phase (length lexicon.phases) then Some choice else None

-- the choice that a text writes over a lexicon
abbrev pub choice_over : Lexicon → List ℕ → Option ChoiceValue
choice_over lexicon text = option_and_then (if_phase lexicon) (choice_of text)
