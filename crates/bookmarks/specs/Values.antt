-- The bookmarks of the definitions for which the program's stand (own).
use Rattle.std.specs.Prelude.{◌*◌, ◌&&◌, nat_le, Bool, length}
use Rattle.segmentation_definitions.specs.declared.limits.TheConstants.{MOST_CHOICES}
use Rattle.derivation.specs.Steps.{keys_meant}
use Rattle.bookmark_definitions.specs.Bookmarks.{Bookmark}
use Rattle.bookmark_definitions.specs.BookmarkReadings.{has_keys_if_printed}
use Rattle.bookmarks.specs.declared.bookmark.Bookmark.{Bookmark as ProgramBookmark}

-- the bookmark for which the program's one stands
abbrev pub bookmark_of : ProgramBookmark → Bookmark
bookmark_of mark =
    record { line = mark.line; choices = mark.choices.items; printed = mark.printed; keys = keys_meant mark.keys.items }

-- its choices and keys are not too many, and it has no keys exactly where no answer was printed
abbrev pub is_within_bounds : Bookmark → Bool
is_within_bounds mark =
    nat_le (length mark.choices) MOST_CHOICES && nat_le (length mark.keys) (2 * length mark.line.letters)
    && has_keys_if_printed mark.printed mark.keys
