-- `written_reread` has the proof.
use Rattle.existence_laws.proofs.NotesReread.{written_reread}
use Rattle.existence_laws.proofs.notes.a_note_that_was_written_is_reread.Goals as goal

pub returns : goal.returns
returns c = λ lex file out mark files outcome is done apart same small. written_reread lex file out mark files same apart outcome done small is
