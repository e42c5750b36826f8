-- `note_read_there` has the proof.
use Rattle.existence_laws.proofs.NotesThere.{note_read_there}
use Rattle.existence_laws.proofs.notes.a_file_is_read_as_a_note.Goals as goal

pub returns : goal.returns
returns c = note_read_there
