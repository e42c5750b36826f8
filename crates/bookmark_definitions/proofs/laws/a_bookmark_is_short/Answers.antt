-- Each part of the text is short.
use Rattle.bookmark_definitions.proofs.BookmarkLengths.{bookmark_length}
use Rattle.bookmark_definitions.proofs.laws.a_bookmark_is_short.Goals as goal

pub returns : goal.returns
returns c = bookmark_length
