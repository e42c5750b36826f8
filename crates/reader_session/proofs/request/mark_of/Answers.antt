-- What is read as a bookmark is one.
use Rattle.bookmark_definitions.proofs.WrittenBookmarks.{bookmark_tells}
use Rattle.bookmarks.specs.Values.{bookmark_of}
use Rattle.reader_session.proofs.request.mark_of.Goals as goal

pub returns-in-Ok-clause-sound : goal.returns-in-Ok-clause-sound
returns-in-Ok-clause-sound c = (bookmark_tells c.args.text.now (bookmark_of c.in-Ok.mark) c.in-Ok.ensures.ok).1
