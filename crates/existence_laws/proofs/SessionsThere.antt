-- Each request has a reply, since its page and its summary are there and it is decided whether an answer has given keys; so lines
-- have replies one after another, and an input has a session.
use Rattle.std.proofs.Common.{◌≡◌, ℕ, ◌<◌, inl, inr, Bool, true, false, List, [], ◌∷◌, ◌++◌, length, Option, Some, None, refl, ap}
use Rattle.std.specs.Prelude.{MatchBool, codes}
use Rattle.std.proofs.lemmas.Bool.{cases_eq}
use Rattle.text_definitions.specs.Lines.{Line}
use Rattle.lexicon_definitions.specs.Lexicons.{Lexicon, IsLexicon}
use Rattle.lexicon_text_definitions.specs.FileLines as file
use Rattle.segmentation_definitions.specs.Derivations.{Step}
use Rattle.segmentation_definitions.specs.Items.{Choice}
use Rattle.segmentation_definitions.specs.Answers.{IsAnswer}
use Rattle.segmentation_definitions.specs.Listings.{Cursor, BeforeFirst, AtAnswer, Key, keys_of}
use Rattle.segmentation_definitions.specs.PrintedAnswers.{output_line, next_number, printed_page}
use Rattle.bookmark_definitions.specs.Bookmarks.{Bookmark}
use Rattle.session_definitions.specs.SessionLines.{line_text, is_long, lines_of_input}
use Rattle.session_definitions.specs.States.{State, opening, after_answers, after_resume}
use Rattle.session_definitions.specs.PrintedSummaries.{printed_summary}
use Rattle.session_definitions.specs.Requests.{Request, Text, Page, Summary, Choose, Undo, Tags, Mark, Resume, Quit, NoWord, request_of}
use Rattle.session_definitions.specs.Replies.{After, Open, Over, Reply, reply_in, agreed, refused, reply_to_text, with_line, reply_about, reply_to_choice, reply_to_undo, reply_to_tags, reply_to_mark, IsReplyOver, IsPageReply, IsSummaryReply, IsCursorOfKeys, IsCursorOfBookmark, IsResumeReply, OfCursor, OfNoCursor, IsReplyTo, IsReplyToText, IsReply}
use Rattle.session_definitions.specs.Sessions.{End, IsWrittenAfter, AreReplies, end_of, IsSession}
use Rattle.existence_laws.proofs.Decisions.{Decided, told_by, both, is_below, is_same_list, holds_of_all, one_has}
use Rattle.existence_laws.proofs.AnswerDecisions.{is_answer}
use Rattle.existence_laws.proofs.ListingsThere.{listing_above, page_there, summary_there}

is_same_key : (left right : Key) → Decided (left ≡ right)
is_same_key left right =
    told_by (λ h i. record { phase = h.0 i; taken = h.1.0 i; rule = h.1.1 i })
    (λ e. (ap (λ (k : Key). k.phase) e, (ap (λ (k : Key). k.taken) e, ap (λ (k : Key). k.rule) e)))
    (both (cases_eq left.phase right.phase) (both (cases_eq left.taken right.taken) (cases_eq left.rule right.rule)))

module _ (lexicon : Lexicon) (is : IsLexicon lexicon) where
  -- ---- one reply

  page_reply_there : (state : State) (count : ℕ) (line : Line) → (reply : Reply) × IsPageReply lexicon state count line reply
  page_reply_there state count line =
      let page = page_there lexicon line state.choices is state.cursor count in (
        reply_in (after_answers state page.0) (printed_page lexicon.rules (next_number state.printed) page.0 page.1),
        record { answers = page.0; more = page.1; page = page.2; is = refl },
      )

  summary_reply_there : (state : State) (line : Line) → (reply : Reply) × IsSummaryReply lexicon state line reply
  summary_reply_there state line =
      let summary = summary_there lexicon line state.choices is in (
        reply_in (record state { summary = Some summary.0 }) (printed_summary lexicon.rules summary.0),
        record { items = summary.0; summary = summary.1; is = refl },
      )

  over_there : (state : State) (found : Option Line) (is_reply_over : Line → Reply → Type 0)
      → ((line : Line) → (reply : Reply) × is_reply_over line reply) → (reply : Reply) × IsReplyOver state found is_reply_over reply
  over_there state None is_reply_over there = (refused state (codes "no text"), refl)
  over_there state (Some line) is_reply_over there = there line

  -- an answer has these keys, or none has
  has_keys : (line : Line) (choices : List Choice) (keys : List Key) → Decided ((cursor : Cursor) × IsCursorOfKeys lexicon line choices keys cursor)
  has_keys line choices [] = inl (BeforeFirst, refl)
  has_keys line choices (key ∷ keys) =
      let listing = listing_above lexicon line choices is BeforeFirst in
      told_by (λ h. (AtAnswer h.0, (h.0, h.1.0, h.1.1, refl))) (λ h. (h.1.0, (h.1.1, h.1.2)))
      (one_has (λ (steps : List Step). IsAnswer lexicon line choices steps × (keys_of lexicon.rules steps ≡ key ∷ keys))
      (λ steps. both (is_answer lexicon line choices steps) (is_same_list is_same_key (keys_of lexicon.rules steps) (key ∷ keys))) listing.0
      (λ steps h. listing.1.complete steps h.0 tt))

  pub has_cursor : (mark : Bookmark) → Decided ((cursor : Cursor) × IsCursorOfBookmark lexicon mark cursor)
  has_cursor mark =
      told_by (λ h. (h.1.0, record { phases = h.0; keys = h.1.1 })) (λ h. (h.1.phases, (h.0, h.1.keys)))
      (both
      (holds_of_all (λ (choice : Choice). choice.item.phase < length lexicon.phases)
      (λ choice. is_below choice.item.phase (length lexicon.phases)) mark.choices)
      (has_keys mark.line mark.choices mark.keys))

  resume_reply_there : (state : State) (mark : Bookmark) → (reply : Reply) × IsResumeReply lexicon state mark reply
  resume_reply_there state mark = elim (has_cursor mark) [
    | inl at ↦ (agreed (after_resume mark at.0), OfCursor at.0 at.1 refl)
    | inr none ↦ (refused state (codes "bookmark"), OfNoCursor (λ cursor h. none (cursor, h)) refl)
  ]

  reply_to_there : (state : State) (request : Request) → (reply : Reply) × IsReplyTo lexicon state request reply
  reply_to_there state (Text scheme text) = (reply_to_text state scheme text, refl)
  reply_to_there state (Page None) = (refused state (codes "number"), refl)
  reply_to_there state (Page (Some count)) =
      over_there state state.line (IsPageReply lexicon state count) (page_reply_there state count)
  reply_to_there state Summary = over_there state state.line (IsSummaryReply lexicon state) (summary_reply_there state)
  reply_to_there state (Choose kept number) = (reply_about state number (reply_to_choice state kept), refl)
  reply_to_there state Undo = (with_line state state.line (λ line. reply_to_undo state state.choices), refl)
  reply_to_there state (Tags number) = (reply_about state number (reply_to_tags lexicon state), refl)
  reply_to_there state Mark = (with_line state state.line (reply_to_mark lexicon state), refl)
  reply_to_there state (Resume None) = (refused state (codes "bookmark"), refl)
  reply_to_there state (Resume (Some mark)) = resume_reply_there state mark
  reply_to_there state Quit = (record { bytes = output_line (codes "bye"); after = Over }, refl)
  reply_to_there state NoWord = (refused state (codes "word"), refl)

  to_text_there : (state : State) (text : List ℕ) → (reply : Reply) × IsReplyToText lexicon state text reply
  to_text_there state [] = (reply_in state [], refl)
  to_text_there state (byte ∷ text) = reply_to_there state (request_of (byte ∷ text))

  by_length : (long : Bool) (state : State) (text : List ℕ)
      → (reply : Reply) × MatchBool long (reply ≡ refused state (codes "long line")) (IsReplyToText lexicon state text reply)
  by_length true state text = (refused state (codes "long line"), refl)
  by_length false state text = to_text_there state text

  pub reply_there : (state : State) (line : file.Line) → (reply : Reply) × IsReply lexicon state line reply
  reply_there state line = by_length (is_long line) state (line_text line)

  -- ---- a session

  -- what is written for lines, and how the session stands after them
  Written : List file.Line → State → Type 0
  Written lines state = (output : List ℕ) × (after : After) × AreReplies lexicon state lines output after

  written_after : (after : After) (lines : List file.Line) → ((state : State) → Written lines state)
      → (rest : List ℕ) × (end : After) × IsWrittenAfter after (λ state output end. AreReplies lexicon state lines output end) rest end
  unfolding Written
  written_after (Open state) lines there = there state
  written_after Over lines there = ([], Over, (refl, refl))

  replies_there : (lines : List file.Line) (state : State) → Written lines state
  unfolding Written
  replies_there [] state = ([], Open state, (refl, refl))
  replies_there (line ∷ lines) state =
      let reply = reply_there state line in
      let rest = written_after reply.0.after lines (λ next. replies_there lines next) in
      (reply.0.bytes ++ rest.0, rest.1, (reply.0, rest.0, reply.1, refl, rest.2))

  pub session_there : (input : List ℕ) → (output : List ℕ) × (end : End) × IsSession lexicon input output end
  unfolding Written
  session_there input =
      let written = replies_there (lines_of_input input) opening in
      (written.0, end_of written.1 input, record { after = written.1; replies = written.2; ends = refl })
