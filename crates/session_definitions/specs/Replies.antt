-- What a session replies to a line of its input, and what it knows after it (own). Each kind of request has its refusals, in
-- their order; a refusal leaves the session as it was.
use Rattle.std.specs.Prelude.{◌≡◌, ℕ, ◌-◌, ◌<◌, nat_le, Bool, MatchBool, if◌then◌else◌, Option, Some, None, Result, Ok, Err, List, [], ◌∷◌, ◌++◌, length, codes, All}
use Rattle.std.specs.List.{slice_get}
use Rattle.text_definitions.specs.Lines.{Line}
use Rattle.text_definitions.specs.Schemes.{Scheme}
use Rattle.text_definitions.specs.LineTexts.{LineFault, line_of_text}
use Rattle.lexicon_definitions.specs.Lexicons.{Lexicon}
use Rattle.lexicon_text_definitions.specs.FileLines as file
use Rattle.segmentation_definitions.specs.declared.limits.TheConstants.{MOST_CHOICES}
use Rattle.segmentation_definitions.specs.Derivations.{Step}
use Rattle.segmentation_definitions.specs.Items.{Item, Choice}
use Rattle.segmentation_definitions.specs.Answers.{IsAnswer}
use Rattle.segmentation_definitions.specs.Listings.{Cursor, BeforeFirst, AtAnswer, IsPage, IsSummary, Key, keys_of}
use Rattle.segmentation_definitions.specs.PrintedAnswers.{output_line, next_number, printed_page}
use Rattle.bookmark_definitions.specs.Bookmarks.{Bookmark}
use Rattle.bookmark_definitions.specs.BookmarkTexts.{text_of_bookmark}
pub use Rattle.session_definitions.specs.LineWhys.{why_no_line}
use Rattle.session_definitions.specs.SessionLines.{line_text, is_long}
use Rattle.session_definitions.specs.States.{State, fresh, after_answers, after_choice, after_undo, after_resume, bookmark_at}
use Rattle.session_definitions.specs.PrintedSummaries.{printed_summary, printed_tags, analyses_of_item}
use Rattle.session_definitions.specs.Requests.{Request, Text, Page, Summary, Choose, Undo, Tags, Mark, Resume, Quit, NoWord, request_of}

-- how a session stands after a line: open, in a state, or over
pub data After : Type 0 where
  Open : (state : State) → After
  Over : After

-- the bytes of a reply, and how the session stands after it
pub record Reply : Type 0 where
  pub bytes : List ℕ
  pub after : After

-- a reply after which the session goes on in this state
abbrev pub reply_in : State → List ℕ → Reply
reply_in state bytes = record { bytes = bytes; after = Open state }

-- `ok`, with this state from now on
abbrev pub agreed : State → Reply
agreed state = reply_in state (output_line (codes "ok"))

-- `? WHY`, and the state stays
abbrev pub refused : State → List ℕ → Reply
refused state why = reply_in state (output_line (codes "? " ++ why))

-- ---- `text SCHEME TEXT`

-- the line from now on, without choices and with nothing printed; or the fault of the text
abbrev pub reply_to_line : State → Result Line LineFault → Reply
reply_to_line state (Ok line) = agreed (fresh (Some line) [])
reply_to_line state (Err fault) = refused state (why_no_line fault)

-- with the scheme; without one the request is refused
abbrev pub reply_to_text : State → Option Scheme → List ℕ → Reply
reply_to_text state None text = refused state (codes "scheme")
reply_to_text state (Some scheme) text = reply_to_line state (line_of_text scheme text)

-- ---- requests about the line

-- with a line; without one the request is refused
abbrev pub with_line : State → Option Line → (Line → Reply) → Reply
with_line state None following = refused state (codes "no text")
with_line state (Some line) following = following line

-- the same where what is replied to a line is a relation
abbrev pub IsReplyOver : State → Option Line → (Line → Reply → Type 0) → Reply → Type 0
IsReplyOver state None is_reply_over reply = reply ≡ refused state (codes "no text")
IsReplyOver state (Some line) is_reply_over reply = is_reply_over line reply

-- `page N`: the next answers are printed, and the cursor goes on
pub record IsPageReply (lexicon : Lexicon) (state : State) (count : ℕ) (line : Line) (reply : Reply) : Type 0 where
  pub answers : List (List Step)
  pub more : Bool
  pub page : IsPage lexicon line state.choices state.cursor count answers more
  pub is : reply ≡ reply_in (after_answers state answers) (printed_page lexicon.rules (next_number state.printed) answers more)

-- `summary`: the summary is printed, and is that of the state from now on
pub record IsSummaryReply (lexicon : Lexicon) (state : State) (line : Line) (reply : Reply) : Type 0 where
  pub items : List Item
  pub summary : IsSummary lexicon line state.choices items
  pub is : reply ≡ reply_in (record state { summary = Some items }) (printed_summary lexicon.rules items)

-- `undo`: the newest choice is taken back, where there is one
abbrev pub reply_to_undo : State → List Choice → Reply
reply_to_undo state [] = refused state (codes "nothing to undo")
reply_to_undo state (choice ∷ choices) = agreed (after_undo state)

-- `mark`: the text of the state's bookmark
abbrev pub reply_to_mark : Lexicon → State → Line → Reply
reply_to_mark lexicon state line = reply_in state (output_line (text_of_bookmark (bookmark_at lexicon.rules state line)))

-- ---- requests about an item of the summary

-- with a summary; without one the request is refused
abbrev pub with_summary : State → Option (List Item) → (List Item → Reply) → Reply
with_summary state None following = refused state (codes "no summary")
with_summary state (Some items) following = following items

-- with an item; where the summary has no item of this number the request is refused
abbrev pub with_item : State → Option Item → (Item → Reply) → Reply
with_item state None following = refused state (codes "number")
with_item state (Some item) following = following item

-- what is replied about the item with this number, counted from 1, where the line, the summary and the item are there
abbrev pub reply_about : State → Option ℕ → (Item → Reply) → Reply
reply_about state None following = refused state (codes "number")
reply_about state (Some number) following =
    with_line state state.line
    (λ line. with_summary state state.summary (λ items. with_item state (slice_get items (number - 1)) following))

-- `keep K` and `reject K`: one choice more, where there are not too many
abbrev pub reply_to_choice : State → Bool → Item → Reply
reply_to_choice state kept item =
    if nat_le MOST_CHOICES (length state.choices) then refused state (codes "too many")
    else agreed (after_choice state kept item)

-- `tags K`: the analyses of the item's form in its phase
abbrev pub reply_to_tags : Lexicon → State → Item → Reply
reply_to_tags lexicon state item = reply_in state (printed_tags (analyses_of_item lexicon item))

-- ---- `resume B`

-- without keys the cursor is before the first answer; else it is at the answer that has these keys
abbrev pub IsCursorOfKeys : Lexicon → Line → List Choice → List Key → Cursor → Type 0
IsCursorOfKeys lexicon line choices [] cursor = cursor ≡ BeforeFirst
IsCursorOfKeys lexicon line choices (key ∷ keys) cursor =
    (steps : List Step) × IsAnswer lexicon line choices steps × (keys_of lexicon.rules steps ≡ key ∷ keys)
    × (cursor ≡ AtAnswer steps)

-- the bookmark is one over this lexicon, at this cursor: the lexicon has the phases of its items, and its keys are those of
-- an answer, whose phases the lexicon has too
pub record IsCursorOfBookmark (lexicon : Lexicon) (mark : Bookmark) (cursor : Cursor) : Type 0 where
  pub phases : All (λ choice. choice.item.phase < length lexicon.phases) mark.choices
  pub keys : IsCursorOfKeys lexicon mark.line mark.choices mark.keys cursor

-- a bookmark over this lexicon is gone on from, and any other is refused
pub data IsResumeReply (lexicon : Lexicon) (state : State) (mark : Bookmark) (reply : Reply) : Type 0 where
  OfCursor : (cursor : Cursor) → IsCursorOfBookmark lexicon mark cursor → reply ≡ agreed (after_resume mark cursor)
      → IsResumeReply lexicon state mark reply
  OfNoCursor : ((cursor : Cursor) → IsCursorOfBookmark lexicon mark cursor → ⊥) → reply ≡ refused state (codes "bookmark")
      → IsResumeReply lexicon state mark reply

-- ---- any line

-- what is replied to a request, by its kind
abbrev pub IsReplyTo : Lexicon → State → Request → Reply → Type 0
IsReplyTo lexicon state (Text scheme text) reply = reply ≡ reply_to_text state scheme text
IsReplyTo lexicon state (Page None) reply = reply ≡ refused state (codes "number")
IsReplyTo lexicon state (Page (Some count)) reply = IsReplyOver state state.line (IsPageReply lexicon state count) reply
IsReplyTo lexicon state Summary reply = IsReplyOver state state.line (IsSummaryReply lexicon state) reply
IsReplyTo lexicon state (Choose kept number) reply = reply ≡ reply_about state number (reply_to_choice state kept)
IsReplyTo lexicon state Undo reply = reply ≡ with_line state state.line (λ line. reply_to_undo state state.choices)
IsReplyTo lexicon state (Tags number) reply = reply ≡ reply_about state number (reply_to_tags lexicon state)
IsReplyTo lexicon state Mark reply = reply ≡ with_line state state.line (reply_to_mark lexicon state)
IsReplyTo lexicon state (Resume None) reply = reply ≡ refused state (codes "bookmark")
IsReplyTo lexicon state (Resume (Some mark)) reply = IsResumeReply lexicon state mark reply
IsReplyTo lexicon state Quit reply = reply ≡ record { bytes = output_line (codes "bye"); after = Over }
IsReplyTo lexicon state NoWord reply = reply ≡ refused state (codes "word")

-- an empty line has no reply
abbrev pub IsReplyToText : Lexicon → State → List ℕ → Reply → Type 0
IsReplyToText lexicon state [] reply = reply ≡ reply_in state []
IsReplyToText lexicon state (byte ∷ text) reply = IsReplyTo lexicon state (request_of (byte ∷ text)) reply

-- what is replied to a line of the input in this state; a line that is too long is refused, whatever it says
abbrev pub IsReply : Lexicon → State → file.Line → Reply → Type 0
IsReply lexicon state line reply =
    MatchBool (is_long line) (reply ≡ refused state (codes "long line")) (IsReplyToText lexicon state (line_text line) reply)
