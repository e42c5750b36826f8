-- What a request of the program asks for, as the definitions name it (own).
use Rattle.std.specs.Prelude.{◌≡◌, ℕ, Option, Some, None}
use Rattle.std.specs.Option.{option_map}
use Rattle.text_line.specs.Values.{scheme_of}
use Rattle.bookmark_definitions.specs.Bookmarks.{IsBookmark}
use Rattle.bookmarks.specs.Values.{bookmark_of}
use Rattle.session_definitions.specs.Requests as definitions
use Rattle.reader_session.specs.declared.request.Request.{Request}
use Rattle.reader_session.specs.declared.request.Request.TheVariants.{Text, Page, Summary, Choose, Undo, Tags, Mark, Resume, Quit, NoWord}

-- the same request
abbrev pub request_meant : Request → definitions.Request
request_meant (Text scheme text) = definitions.Text (option_map scheme_of scheme) text.now
request_meant (Page count) = definitions.Page count
request_meant Summary = definitions.Summary
request_meant (Choose kept number) = definitions.Choose kept number
request_meant Undo = definitions.Undo
request_meant (Tags number) = definitions.Tags number
request_meant Mark = definitions.Mark
request_meant (Resume mark) = definitions.Resume (option_map (λ mark. bookmark_of mark.value) mark)
request_meant Quit = definitions.Quit
request_meant NoWord = definitions.NoWord

-- a number that was read is counted from 1
abbrev pub IsFromOne : Option ℕ → Type 0
IsFromOne number = number ≡ Some 0 → ⊥

-- what was read is within its bounds: numbers are counted from 1, and a bookmark is one
abbrev pub IsSoundRequest : Request → Type 0
IsSoundRequest (Text scheme text) = Unit {0}
IsSoundRequest (Page count) = IsFromOne count
IsSoundRequest Summary = Unit {0}
IsSoundRequest (Choose kept number) = IsFromOne number
IsSoundRequest Undo = Unit {0}
IsSoundRequest (Tags number) = IsFromOne number
IsSoundRequest Mark = Unit {0}
IsSoundRequest (Resume None) = Unit {0}
IsSoundRequest (Resume (Some mark)) = IsBookmark (bookmark_of mark.value)
IsSoundRequest Quit = Unit {0}
IsSoundRequest NoWord = Unit {0}
