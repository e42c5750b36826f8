-- What a line of a session asks for: its first word, up to the first blank, and the rest after this blank (own).
use Rattle.std.specs.Prelude.{ℕ, Bool, true, false, if◌then◌else◌, Option, Some, None, List, [], ◌∷◌, codes}
use Rattle.std.specs.Str.{bytes_eq}
use Rattle.text_definitions.specs.Schemes.{Scheme, scheme_named}
use Rattle.lexicon_text_definitions.specs.FileLines.{Parts, parts_of}
use Rattle.bookmark_definitions.specs.Bookmarks.{Bookmark}
use Rattle.bookmark_definitions.specs.BookmarkReadings.{bookmark_of_text}
pub use Rattle.session_definitions.specs.Numbers.{page_size_of, item_number_of}

-- what a line asks for: a line of text to be read, a page, the summary, an item to be kept or rejected, the newest choice to
-- be taken back, the analyses of an item, a bookmark, to go on from one, or the end. None stands for what could not be
-- read: a word that is no scheme's name, a text that is no number, a text that is no bookmark
pub data Request : Type 0 where
  Text : (scheme : Option Scheme) → (text : List ℕ) → Request
  Page : (count : Option ℕ) → Request
  Summary : Request
  Choose : (kept : Bool) → (number : Option ℕ) → Request
  Undo : Request
  Tags : (number : Option ℕ) → Request
  Mark : Request
  Resume : (mark : Option Bookmark) → Request
  Quit : Request
  NoWord : Request

-- what comes after the first blank, and nothing where there is no blank
abbrev pub after_blank : Option (List ℕ) → List ℕ
after_blank None = []
after_blank (Some rest) = rest

-- the request, where nothing comes after its word
abbrev pub alone : List ℕ → Request → Request
alone [] request = request
alone (byte ∷ rest) request = NoWord

-- `text SCHEME TEXT`: what comes after `text`, cut at its own first blank
abbrev pub text_request : Parts → Request
text_request parts = Text (scheme_named parts.kind) (after_blank parts.rest)

-- what the word asks for with this rest
abbrev pub request_with : List ℕ → List ℕ → Request
request_with word rest =
    if bytes_eq word (codes "text") then text_request (parts_of rest)
    else if bytes_eq word (codes "page") then Page (page_size_of rest)
    else if bytes_eq word (codes "summary") then alone rest Summary
    else if bytes_eq word (codes "keep") then Choose true (item_number_of rest)
    else if bytes_eq word (codes "reject") then Choose false (item_number_of rest)
    else if bytes_eq word (codes "undo") then alone rest Undo
    else if bytes_eq word (codes "tags") then Tags (item_number_of rest)
    else if bytes_eq word (codes "mark") then alone rest Mark
    else if bytes_eq word (codes "resume") then Resume (bookmark_of_text rest)
    else if bytes_eq word (codes "quit") then alone rest Quit
    else NoWord

-- what a line in two parts asks for
abbrev pub request_of_parts : Parts → Request
request_of_parts parts = request_with parts.kind (after_blank parts.rest)

-- what a line asks for
unfoldable pub request_of : List ℕ → Request
request_of line = request_of_parts (parts_of line)
