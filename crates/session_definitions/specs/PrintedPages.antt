-- The pages that a session prints for lines which change neither its line nor its choices (own).
use Rattle.std.specs.Prelude.{◌≡◌, ℕ, Some, List, [], ◌∷◌, ◌++◌}
use Rattle.text_definitions.specs.Lines.{Line}
use Rattle.lexicon_definitions.specs.Lexicons.{Lexicon}
use Rattle.lexicon_text_definitions.specs.FileLines as file
use Rattle.segmentation_definitions.specs.Listings as listings
use Rattle.session_definitions.specs.SessionLines.{line_text}
use Rattle.session_definitions.specs.States.{State}
use Rattle.session_definitions.specs.Requests.{Request, Text, Page, Summary, Choose, Undo, Tags, Mark, Resume, Quit, NoWord, request_of}
use Rattle.session_definitions.specs.Replies.{Reply, Open, IsPageReply, IsReply}
use Rattle.session_definitions.specs.PageReplies.{KeepsPlace}

-- the request is not `text`, `keep`, `reject`, `undo`, `resume` or `quit`
abbrev pub LeavesLine : Request → Type 0
LeavesLine (Text scheme text) = ⊥
LeavesLine (Page count) = Unit {0}
LeavesLine Summary = Unit {0}
LeavesLine (Choose kept number) = ⊥
LeavesLine Undo = ⊥
LeavesLine (Tags number) = Unit {0}
LeavesLine Mark = Unit {0}
LeavesLine (Resume mark) = ⊥
LeavesLine Quit = ⊥
LeavesLine NoWord = Unit {0}

-- the line asks for no such thing
abbrev pub IsBetweenChanges : file.Line → Type 0
IsBetweenChanges line = LeavesLine (request_of (line_text line))

-- from this state on, where the session has this line, what is written is replies that keep the place, and page replies that follow
-- one another: these pages
pub data PrintsPages (lexicon : Lexicon) (line : Line) : State → List ℕ → List listings.Page → Type 0 where
  NoReply : (state : State) → PrintsPages lexicon line state [] []
  PageReply : (state next : State) (count : ℕ) (reply : Reply) (rest : List ℕ) (pages : List listings.Page) → state.line ≡ Some line
      → (page : IsPageReply lexicon state count line reply) → reply.after ≡ Open next → PrintsPages lexicon line next rest pages
      → PrintsPages lexicon line state (reply.bytes ++ rest) (record { count = count; answers = page.answers; more = page.more } ∷ pages)
  OtherReply : (state : State) (input : file.Line) (reply : Reply) (rest : List ℕ) (pages : List listings.Page)
      → IsReply lexicon state input reply → (kept : KeepsPlace state reply) → PrintsPages lexicon line kept.next rest pages
      → PrintsPages lexicon line state (reply.bytes ++ rest) pages
