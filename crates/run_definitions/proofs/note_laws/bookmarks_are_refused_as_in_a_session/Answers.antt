-- The session asks to go on from the bookmark of the text.
use Rattle.run_definitions.proofs.RefusedMarks.{refused_as_in_a_session}
use Rattle.run_definitions.proofs.note_laws.bookmarks_are_refused_as_in_a_session.Goals as goal

pub returns : goal.returns
returns c = refused_as_in_a_session
