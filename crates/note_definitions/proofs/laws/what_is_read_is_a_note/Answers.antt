-- Each part passed its test.
use Rattle.note_definitions.proofs.ReadNotes.{note_if_read}
use Rattle.note_definitions.proofs.laws.what_is_read_is_a_note.Goals as goal

pub returns-clause-note : goal.returns-clause-note
returns-clause-note c = λ lexicon bytes note h. (note_if_read lexicon bytes note h).is

pub returns-clause-value : goal.returns-clause-value
returns-clause-value c = λ lexicon bytes note h. (note_if_read lexicon bytes note h).same_value
