-- What is replied to the first lines begins what is written for all of them.
use Rattle.reader_session.proofs.WrittenFronts.{front_begins}
use Rattle.reader_session.proofs.laws.what_was_written_begins_the_session.Goals as goal

pub returns : goal.returns
returns c = front_begins
