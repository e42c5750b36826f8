-- Replies up to `end` are pages that follow one another, since a page leaves the session at its last answer and other replies
-- leave it where it was; and such pages are together the listing above the cursor of the first.
use Rattle.std.proofs.Common.{◌≡◌, false, ◌∙◌, List, [], ◌∷◌, ◌++◌, sym, ap, subst, append-nil}
use Rattle.std.specs.List.{flat_map}
use Rattle.text_definitions.specs.Lines.{Line}
use Rattle.lexicon_definitions.specs.Lexicons.{Lexicon}
use Rattle.segmentation_definitions.specs.Derivations.{Step}
use Rattle.segmentation_definitions.specs.Items.{Choice}
use Rattle.segmentation_definitions.specs.Listings.{Cursor, IsListingAbove, Page, ArePages, cursor_after}
use Rattle.segmentation_definitions.proofs.Listings.{listing_from_pages, same_listing}
use Rattle.session_definitions.specs.States.{State, after_answers}
use Rattle.session_definitions.specs.Replies.{Open}
use Rattle.session_definitions.specs.PageReplies.{ArePageReplies, LastPage, NextPage, OtherReply}

abbrev answers_of : Page → List (List Step)
answers_of page = page.answers

-- pages that follow one another from a cursor, the last of which leaves nothing, with these answers in all
record AreWholePages (lexicon : Lexicon) (line : Line) (choices : List Choice) (cursor : Cursor) (answers : List (List Step)) : Type 0 where
  pages : List Page
  last : Page
  are : ArePages lexicon line choices cursor (pages ++ last ∷ [])
  ended : last.more ≡ false
  all : flat_map answers_of (pages ++ last ∷ []) ≡ answers

-- a session that goes on in one state does not go on in another
same_state : (left right : State) → Open left ≡ Open right → left ≡ right
same_state left right e = cc

whole_pages : (lexicon : Lexicon) (line : Line) (state : State) (answers : List (List Step)) → ArePageReplies lexicon line state answers
    → AreWholePages lexicon line state.choices state.cursor answers
whole_pages lexicon line state answers (LastPage at count reply has page ended) =
    record {
      pages = [];
      last = record { count = count; answers = page.answers; more = page.more };
      are = (page.page, tt);
      ended = ended;
      all = append-nil page.answers;
    }
whole_pages lexicon line state answers (NextPage at next count reply rest has page goes following) =
    let same : next ≡ after_answers at page.answers =
    same_state next (after_answers at page.answers) (sym goes ∙ (λ i. (page.is i).after)) in
    let on : AreWholePages lexicon line at.choices (cursor_after at.cursor page.answers) rest =
    subst (λ (s : State). AreWholePages lexicon line s.choices s.cursor rest) same (whole_pages lexicon line next rest following) in
    record {
      pages = record { count = count; answers = page.answers; more = page.more } ∷ on.pages;
      last = on.last;
      are = (page.page, on.are);
      ended = on.ended;
      all = ap (λ (x : List (List Step)). page.answers ++ x) on.all;
    }
whole_pages lexicon line state answers (OtherReply at input reply these is kept following) =
    let on : AreWholePages lexicon line kept.next.choices kept.next.cursor these = whole_pages lexicon line kept.next these following in
    subst (λ (choices : List Choice). AreWholePages lexicon line choices at.cursor these) kept.choices
    (subst (λ (cursor : Cursor). AreWholePages lexicon line kept.next.choices cursor these) kept.cursor on)

-- the pages from a state on, up to `end`, are together the listing above its cursor
pub pages_above : (lexicon : Lexicon) (line : Line) (state : State) (answers : List (List Step)) → ArePageReplies lexicon line state answers
    → IsListingAbove lexicon line state.choices state.cursor answers
pages_above lexicon line state answers are =
    let pages = whole_pages lexicon line state answers are in
    subst (IsListingAbove lexicon line state.choices state.cursor) pages.all
    (listing_from_pages lexicon line state.choices pages.pages state.cursor pages.last pages.are pages.ended)

-- wherever the pages are cut, they have the same answers
pub one_list_of_pages : (lexicon : Lexicon) (line : Line) (state other : State) (left right : List (List Step)) → other.choices ≡ state.choices
    → other.cursor ≡ state.cursor → ArePageReplies lexicon line state left → ArePageReplies lexicon line other right → left ≡ right
one_list_of_pages lexicon line state other left right choices cursor p q =
    let above : IsListingAbove lexicon line other.choices other.cursor right = pages_above lexicon line other right q in
    let same_choices : IsListingAbove lexicon line state.choices other.cursor right =
    subst (λ (x : List Choice). IsListingAbove lexicon line x other.cursor right) choices above in
    let same_cursor : IsListingAbove lexicon line state.choices state.cursor right =
    subst (λ (x : Cursor). IsListingAbove lexicon line state.choices x right) cursor same_choices in
    same_listing lexicon line state.choices state.cursor left right (pages_above lexicon line state left p) same_cursor
