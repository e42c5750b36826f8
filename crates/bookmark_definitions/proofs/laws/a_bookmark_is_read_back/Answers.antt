-- The text is cut where its fields were joined, and each field is read back.
use Rattle.bookmark_definitions.proofs.WrittenBookmarks.{bookmark_back}
use Rattle.bookmark_definitions.proofs.laws.a_bookmark_is_read_back.Goals as goal

pub returns : goal.returns
returns c = bookmark_back
