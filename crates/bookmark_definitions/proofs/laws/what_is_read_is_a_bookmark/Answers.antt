-- Field by field, what is read is written as the text that was read.
use Rattle.bookmark_definitions.proofs.WrittenBookmarks.{bookmark_tells}
use Rattle.bookmark_definitions.proofs.laws.what_is_read_is_a_bookmark.Goals as goal

pub returns-clause-text : goal.returns-clause-text
returns-clause-text c = λ text mark h. (bookmark_tells text mark h).0

pub returns-clause-bounds : goal.returns-clause-bounds
returns-clause-bounds c = λ text mark h. (bookmark_tells text mark h).1
