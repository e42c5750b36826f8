-- `outcome_there` has the proof.
use Rattle.existence_laws.proofs.NotesThere.{outcome_there}
use Rattle.existence_laws.proofs.notes.writing_a_note_has_an_outcome.Goals as goal

pub returns : goal.returns
returns c = λ lexicon is line choices. outcome_there lexicon is line choices
