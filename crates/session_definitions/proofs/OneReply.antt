-- Two replies to one line are of one request; its page, its summary and the answer with given keys are one.
use Rattle.std.proofs.Common.{◌≡◌, ℕ, Bool, true, false, List, [], ◌∷◌, Option, Some, None, sym, ◌∙◌, ap, refl}
use Rattle.std.specs.Prelude.{MatchBool, codes}
use Rattle.text_definitions.specs.Lines.{Line}
use Rattle.lexicon_definitions.specs.Lexicons.{Lexicon}
use Rattle.lexicon_text_definitions.specs.FileLines as file
use Rattle.list_laws.proofs.Sorted.{same_sorted}
use Rattle.segmentation_definitions.specs.Items.{Item, Choice}
use Rattle.segmentation_definitions.specs.Listings.{Cursor, AtAnswer, Key}
use Rattle.segmentation_definitions.specs.PrintedAnswers.{next_number, printed_page}
use Rattle.segmentation_definitions.proofs.Listings.{same_page}
use Rattle.segmentation_definitions.proofs.ItemOrder.{compare_items_total}
use Rattle.segmentation_definitions.proofs.KeyLists.{same_steps}
use Rattle.bookmark_definitions.specs.Bookmarks.{Bookmark}
use Rattle.session_definitions.specs.SessionLines.{line_text, is_long}
use Rattle.session_definitions.specs.States.{State, after_answers, after_resume}
use Rattle.session_definitions.specs.PrintedSummaries.{printed_summary}
use Rattle.session_definitions.specs.Requests.{Request, Text, Page, Summary, Choose, Undo, Tags, Mark, Resume, Quit, NoWord, request_of}
use Rattle.session_definitions.specs.Replies.{Reply, reply_in, agreed, refused, IsReplyOver, IsPageReply, IsSummaryReply, IsCursorOfKeys, IsResumeReply, OfCursor, OfNoCursor, IsReplyTo, IsReplyToText, IsReply}

one_page_reply : (lexicon : Lexicon) (state : State) (count : ℕ) (line : Line) (a b : Reply) → IsPageReply lexicon state count line a
    → IsPageReply lexicon state count line b → a ≡ b
one_page_reply lexicon state count line a b p q =
    let page = same_page lexicon line state.choices state.cursor count p.answers q.answers p.more q.more p.page q.page in
    let printed : reply_in (after_answers state p.answers) (printed_page lexicon.rules (next_number state.printed) p.answers p.more)
    ≡ reply_in (after_answers state q.answers) (printed_page lexicon.rules (next_number state.printed) q.answers q.more) =
    λ i. reply_in (after_answers state (page.0 i)) (printed_page lexicon.rules (next_number state.printed) (page.0 i) (page.1 i)) in
    p.is ∙ printed ∙ sym q.is

one_summary_reply : (lexicon : Lexicon) (state : State) (line : Line) (a b : Reply) → IsSummaryReply lexicon state line a
    → IsSummaryReply lexicon state line b → a ≡ b
one_summary_reply lexicon state line a b p q =
    let same : p.items ≡ q.items =
    same_sorted compare_items_total p.items q.items p.summary.rising q.summary.rising
    (λ item m. (q.summary.members item).1 ((p.summary.members item).0 m))
    (λ item m. (p.summary.members item).1 ((q.summary.members item).0 m)) in
    p.is ∙ ap (λ (items : List Item). reply_in (record state { summary = Some items }) (printed_summary lexicon.rules items)) same ∙ sym q.is

-- an answer is determined by its keys
pub one_cursor : (lexicon : Lexicon) (line : Line) (choices : List Choice) (keys : List Key) (left right : Cursor)
    → IsCursorOfKeys lexicon line choices keys left → IsCursorOfKeys lexicon line choices keys right → left ≡ right
one_cursor lexicon line choices [] left right p q = p ∙ sym q
one_cursor lexicon line choices (key ∷ keys) left right (steps, answer, e, at) (others, other, f, other_at) =
    let same : steps ≡ others =
    same_steps lexicon.rules steps others 0 0 [] [] line.letters line.letters [] [] refl refl answer.derives.covers other.derives.covers (e ∙ sym f) in
    at ∙ ap AtAnswer same ∙ sym other_at

one_resume_reply : (lexicon : Lexicon) (state : State) (mark : Bookmark) (a b : Reply) → IsResumeReply lexicon state mark a
    → IsResumeReply lexicon state mark b → a ≡ b
one_resume_reply lexicon state mark a b (OfCursor cursor p e) (OfCursor other q f) =
    let same = one_cursor lexicon mark.line mark.choices mark.keys cursor other p.keys q.keys in
    e ∙ ap (λ (x : Cursor). agreed (after_resume mark x)) same ∙ sym f
one_resume_reply lexicon state mark a b (OfCursor cursor p e) (OfNoCursor none f) = absurd (none cursor p)
one_resume_reply lexicon state mark a b (OfNoCursor none e) (OfCursor cursor q f) = absurd (none cursor q)
one_resume_reply lexicon state mark a b (OfNoCursor none e) (OfNoCursor other f) = e ∙ sym f

one_over : (state : State) (found : Option Line) (is_reply_over : Line → Reply → Type 0)
    → ((line : Line) (a b : Reply) → is_reply_over line a → is_reply_over line b → a ≡ b)
    → (a b : Reply) → IsReplyOver state found is_reply_over a → IsReplyOver state found is_reply_over b → a ≡ b
one_over state None is_reply_over one a b p q = p ∙ sym q
one_over state (Some line) is_reply_over one a b p q = one line a b p q

-- each request has one reply at most
one_reply_to : (lexicon : Lexicon) (state : State) (request : Request) (a b : Reply) → IsReplyTo lexicon state request a
    → IsReplyTo lexicon state request b → a ≡ b
one_reply_to lexicon state (Text scheme text) a b p q = p ∙ sym q
one_reply_to lexicon state (Page None) a b p q = p ∙ sym q
one_reply_to lexicon state (Page (Some count)) a b p q =
    one_over state state.line (IsPageReply lexicon state count) (one_page_reply lexicon state count) a b p q
one_reply_to lexicon state Summary a b p q =
    one_over state state.line (IsSummaryReply lexicon state) (one_summary_reply lexicon state) a b p q
one_reply_to lexicon state (Choose kept number) a b p q = p ∙ sym q
one_reply_to lexicon state Undo a b p q = p ∙ sym q
one_reply_to lexicon state (Tags number) a b p q = p ∙ sym q
one_reply_to lexicon state Mark a b p q = p ∙ sym q
one_reply_to lexicon state (Resume None) a b p q = p ∙ sym q
one_reply_to lexicon state (Resume (Some mark)) a b p q = one_resume_reply lexicon state mark a b p q
one_reply_to lexicon state Quit a b p q = p ∙ sym q
one_reply_to lexicon state NoWord a b p q = p ∙ sym q

one_reply_to_text : (lexicon : Lexicon) (state : State) (text : List ℕ) (a b : Reply) → IsReplyToText lexicon state text a
    → IsReplyToText lexicon state text b → a ≡ b
one_reply_to_text lexicon state [] a b p q = p ∙ sym q
one_reply_to_text lexicon state (byte ∷ text) a b p q = one_reply_to lexicon state (request_of (byte ∷ text)) a b p q

one_by_length : (long : Bool) (lexicon : Lexicon) (state : State) (text : List ℕ) (a b : Reply)
    → MatchBool long (a ≡ refused state (codes "long line")) (IsReplyToText lexicon state text a)
    → MatchBool long (b ≡ refused state (codes "long line")) (IsReplyToText lexicon state text b) → a ≡ b
one_by_length true lexicon state text a b p q = p ∙ sym q
one_by_length false lexicon state text a b p q = one_reply_to_text lexicon state text a b p q

-- a line has one reply at most
pub one_reply : (lexicon : Lexicon) (state : State) (line : file.Line) (a b : Reply) → IsReply lexicon state line a
    → IsReply lexicon state line b → a ≡ b
one_reply lexicon state line a b p q = one_by_length (is_long line) lexicon state (line_text line) a b p q
