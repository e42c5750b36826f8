-- Between two changes each reply is a page, which leaves the session at its last answer, or keeps the place; so the pages follow one
-- another.
use Rattle.std.proofs.Common.{◌≡◌, ℕ, Bool, true, false, Option, Some, None, List, [], ◌∷◌, ◌++◌, All, refl, sym, ap, subst, ◌∙◌, append_assoc}
use Rattle.std.specs.Prelude.{MatchBool, codes}
use Rattle.std.specs.List.{flat_map}
use Rattle.std.proofs.lemmas.List.Elements.{All-head, All-tail}
use Rattle.text_definitions.specs.Lines.{Line}
use Rattle.lexicon_definitions.specs.Lexicons.{Lexicon}
use Rattle.lexicon_text_definitions.specs.FileLines as file
use Rattle.segmentation_definitions.specs.Items.{Choice}
use Rattle.segmentation_definitions.specs.Listings as listings
use Rattle.segmentation_definitions.specs.Listings.{Cursor, BeforeFirst, ArePages, IsListing, IsListingAbove}
use Rattle.segmentation_definitions.proofs.Listings.{listing_from_pages}
use Rattle.session_definitions.specs.SessionLines.{line_text, is_long, lines_of_input}
use Rattle.session_definitions.specs.States.{State, opening, after_answers}
use Rattle.session_definitions.specs.Requests.{Request, Text, Page, Summary, Choose, Undo, Tags, Mark, Resume, Quit, NoWord, request_of}
use Rattle.session_definitions.specs.Replies.{After, Open, Over, Reply, refused, IsReplyOver, IsPageReply, IsReplyTo, IsReplyToText, IsReply}
use Rattle.session_definitions.specs.Sessions.{End, IsWrittenAfter, AreReplies, IsSession}
use Rattle.session_definitions.specs.PageReplies.{KeepsPlace}
use Rattle.session_definitions.specs.PrintedPages.{LeavesLine, IsBetweenChanges, PrintsPages, NoReply, PageReply, OtherReply}
use Rattle.session_definitions.proofs.KeptPlaces.{refusal_keeps, summary_keeps, tags_keep, mark_keeps}
use Rattle.session_definitions.proofs.FrontReplies.{IsWrittenFor, begun}

-- ---- one reply

-- a reply is a page of the line, or keeps the place
data IsPageOrKeeps (lexicon : Lexicon) (line : Line) (state : State) (reply : Reply) : Type 0 where
  Paged : (count : ℕ) → IsPageReply lexicon state count line reply → IsPageOrKeeps lexicon line state reply
  Kept : KeepsPlace state reply → IsPageOrKeeps lexicon line state reply

of_page : (lexicon : Lexicon) (line : Line) (state : State) (count : ℕ) (reply : Reply) → state.line ≡ Some line
    → IsReplyOver state state.line (IsPageReply lexicon state count) reply → IsPageOrKeeps lexicon line state reply
of_page lexicon line state count reply e is =
    Paged count (subst (λ (found : Option Line). IsReplyOver state found (IsPageReply lexicon state count) reply) e is)

of_request : (lexicon : Lexicon) (line : Line) (state : State) (request : Request) (reply : Reply) → state.line ≡ Some line
    → LeavesLine request → IsReplyTo lexicon state request reply → IsPageOrKeeps lexicon line state reply
of_request lexicon line state (Text scheme text) reply e leaves is = absurd leaves
of_request lexicon line state (Page None) reply e leaves is = Kept (refusal_keeps state (codes "number") reply is)
of_request lexicon line state (Page (Some count)) reply e leaves is = of_page lexicon line state count reply e is
of_request lexicon line state Summary reply e leaves is = Kept (summary_keeps lexicon state reply is)
of_request lexicon line state (Choose kept number) reply e leaves is = absurd leaves
of_request lexicon line state Undo reply e leaves is = absurd leaves
of_request lexicon line state (Tags number) reply e leaves is = Kept (tags_keep lexicon state number reply is)
of_request lexicon line state Mark reply e leaves is = Kept (mark_keeps lexicon state reply is)
of_request lexicon line state (Resume mark) reply e leaves is = absurd leaves
of_request lexicon line state Quit reply e leaves is = absurd leaves
of_request lexicon line state NoWord reply e leaves is = Kept (refusal_keeps state (codes "word") reply is)

of_text : (lexicon : Lexicon) (line : Line) (state : State) (text : List ℕ) (reply : Reply) → state.line ≡ Some line
    → LeavesLine (request_of text) → IsReplyToText lexicon state text reply → IsPageOrKeeps lexicon line state reply
of_text lexicon line state [] reply e leaves is =
    Kept (record { next = state; goes_on = λ i. (is i).after; line = refl; choices = refl; cursor = refl })
of_text lexicon line state (byte ∷ text) reply e leaves is = of_request lexicon line state (request_of (byte ∷ text)) reply e leaves is

by_length : (long : Bool) (lexicon : Lexicon) (line : Line) (state : State) (text : List ℕ) (reply : Reply) → state.line ≡ Some line
    → LeavesLine (request_of text) → MatchBool long (reply ≡ refused state (codes "long line")) (IsReplyToText lexicon state text reply)
    → IsPageOrKeeps lexicon line state reply
by_length true lexicon line state text reply e leaves is = Kept (refusal_keeps state (codes "long line") reply is)
by_length false lexicon line state text reply e leaves is = of_text lexicon line state text reply e leaves is

-- ---- all replies

-- the replies print pages
Prints : Lexicon → Line → State → List ℕ → Type 0
Prints lexicon line state output = (pages : List listings.Page) × PrintsPages lexicon line state output pages

goes_on : (lexicon : Lexicon) (lines : List file.Line) (reply : Reply) (next : State) (rest : List ℕ) (last : After) → reply.after ≡ Open next
    → IsWrittenAfter reply.after (IsWrittenFor lexicon lines) rest last → AreReplies lexicon next lines rest last
goes_on lexicon lines reply next rest last e written = subst (λ (a : After). IsWrittenAfter a (IsWrittenFor lexicon lines) rest last) e written

one_more : (lexicon : Lexicon) (line : Line) (state : State) (input : file.Line) (reply : Reply) (rest : List ℕ) → state.line ≡ Some line
    → IsReply lexicon state input reply → IsPageOrKeeps lexicon line state reply
    → ((next : State) → reply.after ≡ Open next → next.line ≡ Some line → Prints lexicon line next rest)
    → Prints lexicon line state (reply.bytes ++ rest)
unfolding Prints
one_more lexicon line state input reply rest e is (Paged count page) following =
    let after : reply.after ≡ Open (after_answers state page.answers) = λ i. (page.is i).after in
    let (pages, printed) = following (after_answers state page.answers) after e in (
      record { count = count; answers = page.answers; more = page.more } ∷ pages,
      PageReply state (after_answers state page.answers) count reply rest pages e page after printed,
    )
one_more lexicon line state input reply rest e is (Kept kept) following =
    let (pages, printed) = following kept.next kept.goes_on (kept.line ∙ e) in
    (pages, OtherReply state input reply rest pages is kept printed)

prints : (lexicon : Lexicon) (line : Line) (lines : List file.Line) (state : State) (output : List ℕ) (last : After) → state.line ≡ Some line
    → All IsBetweenChanges lines → AreReplies lexicon state lines output last → Prints lexicon line state output
unfolding Prints
prints lexicon line [] state output last e between (none, stays) =
    ([], subst (λ (o : List ℕ). PrintsPages lexicon line state o []) (sym none) (NoReply state))
prints lexicon line (input ∷ lines) state output last e between (reply, rest, is, parts, written) =
    subst (Prints lexicon line state) (sym parts)
    (one_more lexicon line state input reply rest e is
    (by_length (is_long input) lexicon line state (line_text input) reply e (All-head IsBetweenChanges input lines between) is)
    (λ next f same. prints lexicon line lines next rest last same (All-tail IsBetweenChanges input lines between)
    (goes_on lexicon lines reply next rest last f written)))

-- ---- the pages

same_state : (left right : State) → Open left ≡ Open right → left ≡ right
same_state left right e = cc (e)

-- the pages that are printed follow one another
pub are_pages : (lexicon : Lexicon) (line : Line) (state : State) (output : List ℕ) (pages : List listings.Page)
    → PrintsPages lexicon line state output pages → ArePages lexicon line state.choices state.cursor pages
are_pages lexicon line state output pages (NoReply at) = tt
are_pages lexicon line state output pages (PageReply at next count reply rest others has page goes following) =
    let same : next ≡ after_answers at page.answers = same_state next (after_answers at page.answers) (sym goes ∙ (λ i. (page.is i).after)) in
    (page.page, subst (λ (s : State). ArePages lexicon line s.choices s.cursor others) same (are_pages lexicon line next rest others following))
are_pages lexicon line state output pages (OtherReply at input reply rest these is kept following) =
    let on : ArePages lexicon line kept.next.choices kept.next.cursor these = are_pages lexicon line kept.next rest these following in
    subst (λ (choices : List Choice). ArePages lexicon line choices at.cursor these) kept.choices
    (subst (λ (cursor : Cursor). ArePages lexicon line kept.next.choices cursor these) kept.cursor on)

pub pages_printed : (lexicon : Lexicon) (line : Line) (state : State) (lines : List file.Line) (output : List ℕ) (last : After)
    → state.line ≡ Some line → All IsBetweenChanges lines → AreReplies lexicon state lines output last
    → (pages : List listings.Page) × PrintsPages lexicon line state output pages
unfolding Prints
pages_printed lexicon line state lines output last e between replies = prints lexicon line lines state output last e between replies

-- and up to one that ends with `end` they are together the listing
pub listing_printed : (lexicon : Lexicon) (line : Line) (state : State) (output : List ℕ) (pages : List listings.Page) (last : listings.Page)
    → state.cursor ≡ BeforeFirst → PrintsPages lexicon line state output (pages ++ last ∷ []) → last.more ≡ false
    → IsListing lexicon line state.choices (flat_map (λ page. page.answers) (pages ++ last ∷ []))
listing_printed lexicon line state output pages last before printed ended =
    subst (λ (x : Cursor). IsListingAbove lexicon line state.choices x (flat_map (λ page. page.answers) (pages ++ last ∷ []))) before
    (listing_from_pages lexicon line state.choices pages state.cursor last
    (are_pages lexicon line state output (pages ++ last ∷ []) printed) ended)

-- ---- within a session

first_after : (a : After) (first whole : State → List ℕ → After → Type 0) (rest : List ℕ) (after : After)
    → ((state : State) → whole state rest after → (front : List ℕ) × (last : After) × (tail : List ℕ) × (rest ≡ front ++ tail) × first state front last)
    → IsWrittenAfter a whole rest after
    → (front : List ℕ) × (last : After) × (tail : List ℕ) × (rest ≡ front ++ tail) × IsWrittenAfter a first front last
first_after (Open state) first whole rest after goes written = goes state written
first_after Over first whole rest after goes (none, over) = ([], Over, [], none, (refl, refl))

-- what is written for lines begins with what is written for the first of them
first_part : (lexicon : Lexicon) (lines others : List file.Line) (state : State) (whole : List ℕ) (after : After)
    → AreReplies lexicon state (lines ++ others) whole after
    → (front : List ℕ) × (last : After) × (tail : List ℕ) × (whole ≡ front ++ tail) × AreReplies lexicon state lines front last
first_part lexicon [] others state whole after replies = ([], Open state, whole, refl, (refl, refl))
first_part lexicon (line ∷ lines) others state whole after (reply, rest, is, e, written) =
    let (front, last, tail, split, these) = first_after reply.after (IsWrittenFor lexicon lines) (IsWrittenFor lexicon (lines ++ others)) rest after
    (λ next here. first_part lexicon lines others next rest after here) written in (
      reply.bytes ++ front,
      last,
      tail,
      e ∙ ap (λ (x : List ℕ). reply.bytes ++ x) split ∙ sym (append_assoc reply.bytes front tail),
      (reply, front, is, refl, these),
    )

-- the lines that follow some first lines, and then others, write a part of the output
pub part_of_session : (lexicon : Lexicon) (input output : List ℕ) (end : End) (before between following : List file.Line) (front : List ℕ)
    (state : State) → IsSession lexicon input output end → lines_of_input input ≡ before ++ (between ++ following)
    → AreReplies lexicon opening before front (Open state)
    → (printed : List ℕ) × (rest : List ℕ) × (last : After) × (output ≡ front ++ (printed ++ rest)) × AreReplies lexicon state between printed last
part_of_session lexicon input output end before between following front state session lines replies =
    let whole : AreReplies lexicon opening (before ++ (between ++ following)) output session.after =
    subst (λ (l : List file.Line). AreReplies lexicon opening l output session.after) lines session.replies in
    let (tail, parts, later) = begun lexicon before (between ++ following) opening front output (Open state) session.after replies whole in
    let (printed, last, rest, split, these) = first_part lexicon between following state tail session.after later in
    (printed, rest, last, parts ∙ ap (λ (x : List ℕ). front ++ x) split, these)
