-- What a session asks where its line is `resume` and a text is to go on from the bookmark of the text; so it refuses just those texts that
-- are bad bookmarks, and what it agrees to has other bytes.
use Rattle.std.proofs.Common.{◌≡◌, ℕ, ◌++◌, ◌↔◌, List, Option, Some, None, codes, refl, sym, ◌∙◌, ap, subst}
use Rattle.lexicon_definitions.specs.Lexicons.{Lexicon}
use Rattle.segmentation_definitions.specs.Listings.{Cursor}
use Rattle.segmentation_definitions.specs.PrintedAnswers.{output_line}
use Rattle.bookmark_definitions.specs.Bookmarks.{Bookmark}
use Rattle.bookmark_definitions.specs.BookmarkReadings.{bookmark_of_text}
use Rattle.session_definitions.specs.States.{State, after_resume}
use Rattle.session_definitions.specs.Requests.{Request, Resume, request_of}
use Rattle.session_definitions.specs.Replies.{Reply, agreed, refused, IsCursorOfBookmark, IsResumeReply, OfCursor, OfNoCursor, IsReplyTo}
use Rattle.run_definitions.specs.AnnotateOutcomes.{IsBadMark}

-- what is asked for
asked : (text : List ℕ) → request_of (codes "resume " ++ text) ≡ Resume (bookmark_of_text text)
unfolding request_of
asked text = refl

-- what is agreed to is not refused
not_agreed : (state other : State) → refused state (codes "bookmark") ≡ agreed other → ⊥
not_agreed state other e =
    let bytes : output_line (codes "? bookmark") ≡ output_line (codes "ok") = ap (λ (r : Reply). r.bytes) e in cc (bytes)

module _ (lexicon : Lexicon) (state : State) (text : List ℕ) where
  Refuses : Option Bookmark → Type 0
  Refuses read = IsReplyTo lexicon state (Resume read) (refused state (codes "bookmark"))

  no_cursor : (mark : Bookmark) (cursor : Cursor) → IsResumeReply lexicon state mark (refused state (codes "bookmark"))
      → IsCursorOfBookmark lexicon mark cursor → ⊥
  no_cursor mark cursor (OfCursor at is e) h = not_agreed state (after_resume mark at) e
  no_cursor mark cursor (OfNoCursor none e) h = none cursor h

  -- by what the text is read as
  refuses : (read : Option Bookmark) → bookmark_of_text text ≡ read → IsBadMark lexicon text → Refuses read
  unfolding Refuses
  refuses None e bad = refl
  refuses (Some mark) e bad = OfNoCursor (λ cursor h. bad mark (record { read = e; cursor = cursor; is_cursor = h })) refl

  refused_mark : (read : Option Bookmark) → bookmark_of_text text ≡ read → Refuses read → IsBadMark lexicon text
  unfolding Refuses
  refused_mark None e reply mark over = let f : None ≡ Some mark = sym e ∙ over.read in cc (f)
  refused_mark (Some other) e reply mark over =
      let f : Some other ≡ Some mark = sym e ∙ over.read in
      let same : other ≡ mark = cc (f) in
      no_cursor mark over.cursor
      (subst (λ (m : Bookmark). IsResumeReply lexicon state m (refused state (codes "bookmark"))) same reply) over.is_cursor

  -- a bad bookmark is what a session refuses
  pub refused_as_in_a_session : IsBadMark lexicon text
      ↔ IsReplyTo lexicon state (request_of (codes "resume " ++ text)) (refused state (codes "bookmark"))
  unfolding Refuses
  refused_as_in_a_session =
      let reply = λ (request : Request). IsReplyTo lexicon state request (refused state (codes "bookmark")) in (
        λ bad. subst reply (sym (asked text)) (refuses (bookmark_of_text text) refl bad),
        λ refused. refused_mark (bookmark_of_text text) refl (subst reply (asked text) refused),
      )
