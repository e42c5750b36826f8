-- What is read in any bytes over a lexicon: a note, or the first fault (own).
use Rattle.std.specs.Prelude.{◌≡◌, ◌≢◌, ℕ, ◌⊎◌, nat_le, nat_lt, if◌then◌else◌, Option, Some, None, option_and_then, Result, Ok, Err, List, length}
use Rattle.std.specs.List.{list_all}
use Rattle.std.specs.Str.{is_utf8}
use Rattle.serde_json.specs.Data.{Data}
use Rattle.serde_json.specs.Read.{read}
use Rattle.text_definitions.specs.Lines.{Line}
use Rattle.lexicon_definitions.specs.Lexicons.{Lexicon}
use Rattle.segmentation_definitions.specs.declared.limits.TheConstants.{MOST_CHOICES}
use Rattle.segmentation_definitions.specs.Derivations.{Step}
use Rattle.segmentation_definitions.specs.Items.{Choice}
use Rattle.bookmark_definitions.specs.BookmarkReadings.{each_read, line_of, choice_of}
use Rattle.note_definitions.specs.NoteFaults as faults
use Rattle.note_definitions.specs.NoteFaults.{Why, Json, Shape, Text, NotOnly, Segments}
use Rattle.note_definitions.specs.Notes.{Note, IsOnlyAnswer}
use Rattle.note_definitions.specs.NoteTexts.{value_of_note}
use Rattle.note_definitions.specs.NoteShapes.{NoteParts, parts_of_value}

-- ---- what is told without a look at answers

-- the JSON value of bytes that are UTF-8
abbrev pub value_of_bytes : List ℕ → Option Data
value_of_bytes bytes = if is_utf8 bytes then read bytes else None

-- a value with the shape of a note, and the line and the choices that it writes
pub record Told : Type 0 where
  pub value : Data
  pub line : Line
  pub choices : List Choice

-- the choices, where the lexicon has the phase of each item
abbrev pub if_phases : Lexicon → List Choice → Option (List Choice)
if_phases lexicon choices =
    if list_all (λ choice. nat_lt choice.item.phase (length lexicon.phases)) choices then Some choices else None

-- the choices that these texts write over a lexicon, where they are not too many
abbrev pub choices_of : Lexicon → List (List ℕ) → Option (List Choice)
choices_of lexicon texts =
    if nat_le (length texts) MOST_CHOICES then option_and_then (if_phases lexicon) (each_read choice_of texts) else None

abbrev pub told_with_choices : Data → Line → Option (List Choice) → Result Told Why
told_with_choices value line None = Err faults.Choice
told_with_choices value line (Some choices) = Ok (record { value = value; line = line; choices = choices })

abbrev pub told_with_line : Lexicon → Data → NoteParts → Option Line → Result Told Why
told_with_line lexicon value parts None = Err Text
told_with_line lexicon value parts (Some line) = told_with_choices value line (choices_of lexicon parts.choices)

abbrev pub told_with_parts : Lexicon → Data → Option NoteParts → Result Told Why
told_with_parts lexicon value None = Err Shape
told_with_parts lexicon value (Some parts) = told_with_line lexicon value parts (line_of parts.text)

abbrev pub told_with_value : Lexicon → Option Data → Result Told Why
told_with_value lexicon None = Err Json
told_with_value lexicon (Some value) = told_with_parts lexicon value (parts_of_value value)

-- the value, the line and the choices that bytes tell, or their first fault of the first four kinds
unfoldable pub told_by_bytes : Lexicon → List ℕ → Result Told Why
told_by_bytes lexicon bytes = told_with_value lexicon (value_of_bytes bytes)

-- ---- what the answers decide

-- the note has the line and the choices that were told, and their one answer; and the value that was told is the note's
pub record IsNoteTold (lexicon : Lexicon) (told : Told) (note : Note) : Type 0 where
  pub line : note.line ≡ told.line
  pub choices : note.choices ≡ told.choices
  pub answer : IsOnlyAnswer lexicon note.line note.choices note.steps
  pub value : told.value ≡ value_of_note lexicon note

-- the line and the choices have not exactly one answer
abbrev pub HasNotOneAnswer : Lexicon → Told → Type 0
HasNotOneAnswer lexicon told = (steps : List Step) → IsOnlyAnswer lexicon told.line told.choices steps → ⊥

-- the line and the choices have exactly one answer, and the value is not that of their note
abbrev pub HasOtherSegments : Lexicon → Told → Type 0
HasOtherSegments lexicon told =
    (steps : List Step) × IsOnlyAnswer lexicon told.line told.choices steps
    × (told.value ≢ value_of_note lexicon (record { line = told.line; choices = told.choices; steps = steps }))

-- the result, after what was told without a look at answers
abbrev pub IsReadAfterTold : Lexicon → Result Told Why → Result Note Why → Type 0
IsReadAfterTold lexicon (Err why) result = result ≡ Err why
IsReadAfterTold lexicon (Ok told) (Ok note) = IsNoteTold lexicon told note
IsReadAfterTold lexicon (Ok told) (Err why) =
    ((why ≡ NotOnly) × HasNotOneAnswer lexicon told) ⊎ ((why ≡ Segments) × HasOtherSegments lexicon told)

-- the bytes are read as this note, or have this first fault
abbrev pub IsNoteRead : Lexicon → List ℕ → Result Note Why → Type 0
IsNoteRead lexicon bytes result = IsReadAfterTold lexicon (told_by_bytes lexicon bytes) result
