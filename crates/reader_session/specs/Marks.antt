-- What reading a bookmark for its line and choices gives (own).
use Rattle.std.specs.Prelude.{◌≡◌, ℕ, Option, Some, None, List}
use Rattle.lexicon_definitions.specs.Lexicons.{Lexicon}
use Rattle.segmentation_definitions.specs.Listings.{Cursor}
use Rattle.bookmark_definitions.specs.Bookmarks.{Bookmark}
use Rattle.bookmark_definitions.specs.BookmarkReadings.{bookmark_of_text}
use Rattle.session_definitions.specs.Replies.{IsCursorOfBookmark}
use Rattle.reader_session.specs.declared.marks.MarkedLine.{MarkedLine}

-- the text is that of a bookmark over the lexicon, which has this line and these choices
pub record IsMarked (lexicon : Lexicon) (text : List ℕ) (marked : MarkedLine) : Type 0 where
  pub mark : Bookmark
  pub read : bookmark_of_text text ≡ Some mark
  pub cursor : Cursor
  pub is_cursor : IsCursorOfBookmark lexicon mark cursor
  pub line : marked.line ≡ mark.line
  pub choices : marked.choices ≡ mark.choices

-- the same; or the text is that of no bookmark over the lexicon
abbrev pub IsMarkRead : Lexicon → List ℕ → Option MarkedLine → Type 0
IsMarkRead lexicon text None = (mark : Bookmark) (cursor : Cursor) → bookmark_of_text text ≡ Some mark → IsCursorOfBookmark lexicon mark cursor → ⊥
IsMarkRead lexicon text (Some marked) = IsMarked lexicon text marked
