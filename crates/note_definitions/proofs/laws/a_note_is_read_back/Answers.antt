-- The value is read back from its text, and its line and choices from theirs.
use Rattle.std.proofs.Common.{sym, subst}
use Rattle.std.specs.Prelude.{ℕ, List, Ok}
use Rattle.note_definitions.specs.NoteReadings.{IsNoteRead}
use Rattle.note_definitions.proofs.NotesBack.{note_back}
use Rattle.note_definitions.proofs.laws.a_note_is_read_back.Goals as goal

pub returns-clause-written : goal.returns-clause-written
returns-clause-written c = λ lexicon line choices text is limits of_line few over written. (
  written.0,
  subst (λ (bytes : List ℕ). IsNoteRead lexicon bytes (Ok (record { line = line; choices = choices; steps = written.0 }))) (sym written.2)
      (note_back lexicon (record { line = line; choices = choices; steps = written.0 }) is limits
      (record { line = of_line; few_choices = few; choices = over; answer = written.1 })),
)

pub returns-clause-note : goal.returns-clause-note
returns-clause-note c = note_back
