-- The line and the choices of a bookmark are those of the line that is read on from it; where nothing is read on, there is no bookmark over
-- the lexicon.
use Rattle.std.proofs.Common.{◌≡◌, ℕ, Option, Some, None, List, sym, ◌∙◌, ap, subst}
use Rattle.std.specs.Option.{option_map}
use Rattle.lexicon_definitions.specs.Lexicons.{Lexicon}
use Rattle.annotated_trie.specs.Searched.{SearchedLexicon}
use Rattle.bookmark_definitions.specs.Bookmarks.{Bookmark}
use Rattle.bookmark_definitions.specs.BookmarkReadings.{bookmark_of_text}
use Rattle.bookmarks.specs.declared.bookmark.Bookmark.{Bookmark as ProgramBookmark}
use Rattle.bookmarks.specs.Values.{bookmark_of}
use Rattle.session_definitions.specs.States.{State}
use Rattle.session_definitions.specs.Replies.{IsCursorOfBookmark}
use Rattle.reader_session.specs.declared.reading.Reading.{Reading}
use Rattle.reader_session.specs.Resumed.{IsResumed}
use Rattle.reader_session.specs.Marks.{IsMarkRead}

-- the text is that of no bookmark
pub not_written : (lexicon : Lexicon) (text : List ℕ) (mark : Option ProgramBookmark) → mark ≡ None
    → option_map bookmark_of mark ≡ bookmark_of_text text → IsMarkRead lexicon text None
not_written lexicon text mark none e other cursor read is =
    let f : None ≡ Some other = sym (ap (option_map bookmark_of) none) ∙ e ∙ read in cc (f)

-- what the text is read as is the program's bookmark
same_mark : (text : List ℕ) (mark : ProgramBookmark) (found : Option ProgramBookmark) → found ≡ Some mark
    → option_map bookmark_of found ≡ bookmark_of_text text → bookmark_of_text text ≡ Some (bookmark_of mark)
same_mark text mark found some e = sym e ∙ ap (option_map bookmark_of) some

-- nothing is read on from it
pub not_resumed : (searched : SearchedLexicon) (text : List ℕ) (mark : ProgramBookmark) (found : Option ProgramBookmark) (reading : Option Reading)
    → found ≡ Some mark → option_map bookmark_of found ≡ bookmark_of_text text → reading ≡ None → IsResumed searched (bookmark_of mark) reading
    → IsMarkRead searched.lexicon text None
not_resumed searched text mark found reading some e none is other cursor read at =
    let f : Some other ≡ Some (bookmark_of mark) = sym read ∙ same_mark text mark found some e in
    let same : other ≡ bookmark_of mark = cc (f) in
    let resumed : IsResumed searched (bookmark_of mark) None = subst (IsResumed searched (bookmark_of mark)) none is in
    resumed cursor (subst (λ (m : Bookmark). IsCursorOfBookmark searched.lexicon m cursor) same at)

-- the line is read on from it
pub marked : (searched : SearchedLexicon) (text : List ℕ) (mark : ProgramBookmark) (found : Option ProgramBookmark) (reading : Reading)
    (read : Option Reading) → found ≡ Some mark → option_map bookmark_of found ≡ bookmark_of_text text → read ≡ Some reading
    → IsResumed searched (bookmark_of mark) read
    → IsMarkRead searched.lexicon text (Some (record { line = reading.line; choices = reading.choices }))
marked searched text mark found reading read some e resumes is =
    let at : IsResumed searched (bookmark_of mark) (Some reading) = subst (IsResumed searched (bookmark_of mark)) resumes is in
    let line : Some reading.line ≡ Some mark.line = ap (λ (state : State). state.line) at.1.state in record {
      mark = bookmark_of mark;
      read = same_mark text mark found some e;
      cursor = at.0;
      is_cursor = at.1.is_cursor;
      line = cc (line);
      choices = ap (λ (state : State). state.choices) at.1.state;
    }
