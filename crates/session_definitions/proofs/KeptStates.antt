-- What holds in the opening state and is kept by each kind of reply holds in each state that a session reaches.
use Rattle.std.proofs.Common.{◌≡◌, ℕ, ◌-◌, Bool, true, false, Option, Some, None, Result, Ok, Err, List, [], ◌∷◌, length, sym, subst, ◌∙◌, refl}
use Rattle.std.specs.Prelude.{MatchBool, nat_le, if◌then◌else◌, codes}
use Rattle.std.specs.List.{slice_get}
use Rattle.std.specs.Str.{bytes_eq}
use Rattle.text_definitions.specs.Lines.{Line}
use Rattle.text_definitions.specs.Schemes.{Scheme}
use Rattle.text_definitions.specs.LineTexts.{LineFault, line_of_text}
use Rattle.lexicon_definitions.specs.Lexicons.{Lexicon}
use Rattle.lexicon_text_definitions.specs.FileLines as file
use Rattle.lexicon_text_definitions.specs.FileLines.{Parts, parts_of}
use Rattle.segmentation_definitions.specs.declared.limits.TheConstants.{MOST_CHOICES}
use Rattle.segmentation_definitions.specs.Derivations.{Step}
use Rattle.segmentation_definitions.specs.Items.{Item, Choice}
use Rattle.segmentation_definitions.specs.Listings.{Cursor, IsPage, IsSummary}
use Rattle.bookmark_definitions.specs.Bookmarks.{Bookmark}
use Rattle.bookmark_definitions.specs.BookmarkReadings.{bookmark_of_text}
use Rattle.session_definitions.specs.SessionLines.{line_text, is_long}
use Rattle.session_definitions.specs.States.{State, opening, fresh, after_answers, after_choice, after_undo, after_resume}
use Rattle.session_definitions.specs.Requests.{Request, Text, Page, Summary, Choose, Undo, Tags, Mark, Resume, Quit, NoWord, alone, after_blank, request_with, request_of}
use Rattle.session_definitions.specs.Replies.{After, Open, Over, Reply, agreed, refused, reply_to_line, reply_to_text, reply_to_undo, reply_to_mark, reply_to_choice, reply_to_tags, with_line, with_summary, with_item, reply_about, IsReplyOver, IsPageReply, IsSummaryReply, IsCursorOfBookmark, IsResumeReply, OfCursor, OfNoCursor, IsReplyTo, IsReplyToText, IsReply}
use Rattle.session_definitions.specs.Sessions.{IsWrittenAfter, AreReplies}
use Rattle.session_definitions.specs.ReachedStates.{IsReached}

-- each kind of reply that changes the state keeps this
pub record AreKept (lexicon : Lexicon) (P : State → Type 0) : Type 0 where
  pub opens : P opening
  pub reads : (scheme : Scheme) (text : List ℕ) (line : Line) → line_of_text scheme text ≡ Ok line → P (fresh (Some line) [])
  pub prints : (state : State) (line : Line) (count : ℕ) (answers : List (List Step)) (more : Bool) → P state → state.line ≡ Some line
      → IsPage lexicon line state.choices state.cursor count answers more → P (after_answers state answers)
  pub sums : (state : State) (line : Line) (items : List Item) → P state → state.line ≡ Some line
      → IsSummary lexicon line state.choices items → P (record state { summary = Some items })
  pub chooses : (state : State) (items : List Item) (kept : Bool) (number : ℕ) (item : Item) → P state → state.summary ≡ Some items
      → slice_get items number ≡ Some item → nat_le MOST_CHOICES (length state.choices) ≡ false → P (after_choice state kept item)
  pub undoes : (state : State) → P state → P (after_undo state)
  pub resumes : (text : List ℕ) (mark : Bookmark) (cursor : Cursor) → bookmark_of_text text ≡ Some mark
      → IsCursorOfBookmark lexicon mark cursor → P (after_resume mark cursor)

-- ---- what a line asks for

-- a request to go on from a bookmark is of this text
abbrev IsResumedBy : List ℕ → Request → Type 0
IsResumedBy text request = (mark : Bookmark) → request ≡ Resume (Some mark) → bookmark_of_text text ≡ Some mark

either : (b : Bool) (text : List ℕ) (left right : Request) → IsResumedBy text left → IsResumedBy text right
    → IsResumedBy text (if b then left else right)
either true text left right p q = p
either false text left right p q = q

alone_by : (rest text : List ℕ) (request : Request) → IsResumedBy text request → IsResumedBy text (alone rest request)
alone_by [] text request p = p
alone_by (byte ∷ rest) text request p = λ mark e. absurd (cc (e))

resumed_by : (word rest : List ℕ) → IsResumedBy rest (request_with word rest)
resumed_by word rest =
    either (bytes_eq word (codes "text")) rest _ _ (λ mark e. absurd (cc (e)))
    (either (bytes_eq word (codes "page")) rest _ _ (λ mark e. absurd (cc (e)))
    (either (bytes_eq word (codes "summary")) rest _ _ (alone_by rest rest Summary (λ mark e. absurd (cc (e))))
    (either (bytes_eq word (codes "keep")) rest _ _ (λ mark e. absurd (cc (e)))
    (either (bytes_eq word (codes "reject")) rest _ _ (λ mark e. absurd (cc (e)))
    (either (bytes_eq word (codes "undo")) rest _ _ (alone_by rest rest Undo (λ mark e. absurd (cc (e))))
    (either (bytes_eq word (codes "tags")) rest _ _ (λ mark e. absurd (cc (e)))
    (either (bytes_eq word (codes "mark")) rest _ _ (alone_by rest rest Mark (λ mark e. absurd (cc (e))))
    (either (bytes_eq word (codes "resume")) rest _ _ (λ mark e. cc (e))
    (either (bytes_eq word (codes "quit")) rest _ _ (alone_by rest rest Quit (λ mark e. absurd (cc (e)))) (λ mark e. absurd (cc (e))))))))))))

line_resumed_by : (line : List ℕ) → IsResumedBy (after_blank (parts_of line).rest) (request_of line)
unfolding request_of
line_resumed_by line = resumed_by (parts_of line).kind (after_blank (parts_of line).rest)

-- ---- one reply

-- a session that goes on in one state does not go on in another, nor is it over
same_state : (left right : State) → Open left ≡ Open right → left ≡ right
same_state left right e = cc (e)

not_over : (state : State) → Over ≡ Open state → ⊥
not_over state e = cc (e)

module _ (lexicon : Lexicon) (P : State → Type 0) (are : AreKept lexicon P) where
  -- where the session goes on, this holds
  abbrev Goes : After → Type 0
  Goes after = (next : State) → after ≡ Open next → P next

  goes_in : (state : State) → P state → Goes (Open state)
  goes_in state p next e = subst P (same_state state next e) p

  goes_by : (state : State) (reply other : Reply) → reply ≡ other → Goes other.after → Goes reply.after
  goes_by state reply other e goes = subst (λ (r : Reply). Goes r.after) (sym e) goes

  to_line : (state : State) (scheme : Scheme) (text : List ℕ) (found : Result Line LineFault) → P state
      → line_of_text scheme text ≡ found → Goes (reply_to_line state found).after
  to_line state scheme text (Ok line) p e = goes_in (fresh (Some line) []) (are.reads scheme text line e)
  to_line state scheme text (Err fault) p e = goes_in state p

  to_text : (state : State) (scheme : Option Scheme) (text : List ℕ) → P state → Goes (reply_to_text state scheme text).after
  to_text state None text p = goes_in state p
  to_text state (Some scheme) text p = to_line state scheme text (line_of_text scheme text) p refl

  to_page : (state : State) (count : ℕ) (found : Option Line) (reply : Reply) → state.line ≡ found → P state
      → IsReplyOver state found (IsPageReply lexicon state count) reply → Goes reply.after
  to_page state count None reply e p is = goes_by state reply _ is (goes_in state p)
  to_page state count (Some line) reply e p is =
      goes_by state reply _ is.is (goes_in (after_answers state is.answers) (are.prints state line count is.answers is.more p e is.page))

  to_summary : (state : State) (found : Option Line) (reply : Reply) → state.line ≡ found → P state
      → IsReplyOver state found (IsSummaryReply lexicon state) reply → Goes reply.after
  to_summary state None reply e p is = goes_by state reply _ is (goes_in state p)
  to_summary state (Some line) reply e p is =
      goes_by state reply _ is.is (goes_in (record state { summary = Some is.items }) (are.sums state line is.items p e is.summary))

  to_mark : (state : State) (found : Option Line) → P state → Goes (with_line state found (reply_to_mark lexicon state)).after
  to_mark state None p = goes_in state p
  to_mark state (Some line) p = goes_in state p

  to_undo_of : (state : State) (choices : List Choice) → P state → Goes (reply_to_undo state choices).after
  to_undo_of state [] p = goes_in state p
  to_undo_of state (choice ∷ choices) p = goes_in (after_undo state) (are.undoes state p)

  to_undo : (state : State) (found : Option Line) → P state → Goes (with_line state found (λ line. reply_to_undo state state.choices)).after
  to_undo state None p = goes_in state p
  to_undo state (Some line) p = to_undo_of state state.choices p

  -- about an item of the summary
  to_item : (state : State) (items : List Item) (number : ℕ) (found : Option Item) (following : Item → Reply) → slice_get items number ≡ found
      → P state → ((item : Item) → slice_get items number ≡ Some item → Goes (following item).after)
      → Goes (with_item state found following).after
  to_item state items number None following e p goes = goes_in state p
  to_item state items number (Some item) following e p goes = goes item e

  to_items : (state : State) (number : ℕ) (found : Option (List Item)) (following : Item → Reply) → state.summary ≡ found → P state
      → ((items : List Item) (item : Item) → state.summary ≡ Some items → slice_get items (number - 1) ≡ Some item → Goes (following item).after)
      → Goes (with_summary state found (λ items. with_item state (slice_get items (number - 1)) following)).after
  to_items state number None following e p goes = goes_in state p
  to_items state number (Some items) following e p goes =
      to_item state items (number - 1) (slice_get items (number - 1)) following refl p (λ item f. goes items item e f)

  to_line_items : (state : State) (number : ℕ) (found : Option Line) (following : Item → Reply) → P state
      → ((items : List Item) (item : Item) → state.summary ≡ Some items → slice_get items (number - 1) ≡ Some item → Goes (following item).after)
      → Goes (with_line state found (λ line. with_summary state state.summary (λ items. with_item state (slice_get items (number - 1)) following))).after
  to_line_items state number None following p goes = goes_in state p
  to_line_items state number (Some line) following p goes = to_items state number state.summary following refl p goes

  to_about : (state : State) (number : Option ℕ) (following : Item → Reply) → P state
      → ((number : ℕ) (items : List Item) (item : Item) → state.summary ≡ Some items → slice_get items (number - 1) ≡ Some item
      → Goes (following item).after) → Goes (reply_about state number following).after
  to_about state None following p goes = goes_in state p
  to_about state (Some number) following p goes = to_line_items state number state.line following p (goes number)

  to_choice_if : (state : State) (kept : Bool) (item : Item) (full : Bool) → P state → (full ≡ false → P (after_choice state kept item))
      → Goes (if full then refused state (codes "too many") else agreed (after_choice state kept item)).after
  to_choice_if state kept item true p chosen = goes_in state p
  to_choice_if state kept item false p chosen = goes_in (after_choice state kept item) (chosen refl)

  to_resume : (state : State) (text : List ℕ) (mark : Bookmark) (reply : Reply) → P state → bookmark_of_text text ≡ Some mark
      → IsResumeReply lexicon state mark reply → Goes reply.after
  to_resume state text mark reply p e (OfCursor cursor is f) =
      goes_by state reply _ f (goes_in (after_resume mark cursor) (are.resumes text mark cursor e is))
  to_resume state text mark reply p e (OfNoCursor none f) = goes_by state reply _ f (goes_in state p)

  to_request : (state : State) (text : List ℕ) (request : Request) (reply : Reply) → P state → IsResumedBy text request
      → IsReplyTo lexicon state request reply → Goes reply.after
  to_request state text (Text scheme words) reply p by is = goes_by state reply _ is (to_text state scheme words p)
  to_request state text (Page None) reply p by is = goes_by state reply _ is (goes_in state p)
  to_request state text (Page (Some count)) reply p by is = to_page state count state.line reply refl p is
  to_request state text Summary reply p by is = to_summary state state.line reply refl p is
  to_request state text (Choose kept number) reply p by is =
      goes_by state reply _ is (to_about state number (reply_to_choice state kept) p (λ n items item e f.
      to_choice_if state kept item (nat_le MOST_CHOICES (length state.choices)) p (λ few. are.chooses state items kept (n - 1) item p e f few)))
  to_request state text Undo reply p by is = goes_by state reply _ is (to_undo state state.line p)
  to_request state text (Tags number) reply p by is =
      goes_by state reply _ is (to_about state number (reply_to_tags lexicon state) p (λ n items item e f. goes_in state p))
  to_request state text Mark reply p by is = goes_by state reply _ is (to_mark state state.line p)
  to_request state text (Resume None) reply p by is = goes_by state reply _ is (goes_in state p)
  to_request state text (Resume (Some mark)) reply p by is = to_resume state text mark reply p (by mark refl) is
  to_request state text Quit reply p by is = goes_by state reply _ is (λ next e. absurd (not_over next e))
  to_request state text NoWord reply p by is = goes_by state reply _ is (goes_in state p)

  to_words : (state : State) (text : List ℕ) (reply : Reply) → P state → IsReplyToText lexicon state text reply → Goes reply.after
  to_words state [] reply p is = goes_by state reply _ is (goes_in state p)
  to_words state (byte ∷ text) reply p is =
      to_request state (after_blank (parts_of (byte ∷ text)).rest) (request_of (byte ∷ text)) reply p (line_resumed_by (byte ∷ text)) is

  by_length : (long : Bool) (state : State) (text : List ℕ) (reply : Reply) → P state
      → MatchBool long (reply ≡ refused state (codes "long line")) (IsReplyToText lexicon state text reply) → Goes reply.after
  by_length true state text reply p is = goes_by state reply _ is (goes_in state p)
  by_length false state text reply p is = to_words state text reply p is

  -- the reply to a line keeps it
  kept_by_reply : (state : State) (line : file.Line) (reply : Reply) → P state → IsReply lexicon state line reply → Goes reply.after
  kept_by_reply state line reply p is = by_length (is_long line) state (line_text line) reply p is

  along_after : (after : After) (is_written : State → List ℕ → After → Type 0) (rest : List ℕ) (last : After)
      → ((state : State) → after ≡ Open state → is_written state rest last → Goes last) → IsWrittenAfter after is_written rest last → Goes last
  along_after (Open state) is_written rest last goes written = goes state refl written
  along_after Over is_written rest last goes (none, over) = λ next e. absurd (not_over next (sym over ∙ e))

  -- and so do the replies to lines
  kept_along : (lines : List file.Line) (state : State) (output : List ℕ) (last : After) → P state
      → AreReplies lexicon state lines output last → Goes last
  kept_along [] state output last p (none, stays) = λ next e. goes_in state p next (sym stays ∙ e)
  kept_along (line ∷ lines) state output last p (reply, rest, is, e, written) =
      along_after reply.after (λ s r a. AreReplies lexicon s lines r a) rest last
      (λ s f here. kept_along lines s rest last (kept_by_reply state line reply p is s f) here) written

  -- it holds in each state that a session reaches
  pub kept : (state : State) → IsReached lexicon state → P state
  kept state reached = kept_along reached.lines opening reached.output (Open state) are.opens reached.replies state refl
