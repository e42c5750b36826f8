-- What `reread` prints of the bytes of a note.
use Rattle.std.specs.Prelude.{◌≡◌, ℕ, false, List, [], ◌∷◌}
use Rattle.lexicon_definitions.specs.Lexicons.{Lexicon}
use Rattle.segmentation_definitions.specs.PrintedAnswers.{printed_page}
use Rattle.note_definitions.specs.Notes.{Note}
use Rattle.note_definitions.specs.NoteReadings.{IsNoteRead}
use Rattle.commands.specs.Sources.{HoldsSource}

-- the bytes are those of a note, and the output is its answer with the number 1, and `end`
pub record IsPrintedNote (lexicon : Lexicon) (bytes output : List ℕ) : Type 0 where
  pub note : Note
  pub held : HoldsSource (IsNoteRead lexicon) bytes note
  pub printed : output ≡ printed_page lexicon.rules 1 (note.steps ∷ []) false
