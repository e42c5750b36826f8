-- The bookmark of a line that is read (own).
use Rattle.derivation.specs.Steps.{keys_of}
use Rattle.bookmark_definitions.specs.Bookmarks.{Bookmark}
use Rattle.reader_session.specs.declared.reading.Reading.{Reading}

-- the bookmark with the line, the choices, the number of answers printed, and the keys of the last of these
abbrev pub mark_of : Reading → Bookmark
mark_of reading =
    record { line = reading.line; choices = reading.choices; printed = reading.printed; keys = keys_of reading.last.items }
