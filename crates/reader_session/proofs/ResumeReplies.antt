-- The replies to `resume`: by what was read as a bookmark, and what was resumed.
use Rattle.std.proofs.Common.{◌≡◌, ℕ, Option, Some, None, Result, IfOk, OnOk, List, ◌++◌, codes, refl, ap, sym, subst}
use Rattle.segmentation_definitions.specs.PrintedAnswers.{output_line}
use Rattle.std.specs.Global.{Box}
use Rattle.annotated_trie.specs.Searched.{SearchedLexicon}
use Rattle.bookmarks.specs.declared.bookmark.Bookmark.{Bookmark as ProgramBookmark}
use Rattle.bookmarks.specs.Values.{bookmark_of}
use Rattle.session_definitions.specs.States.{after_resume}
use Rattle.session_definitions.specs.Requests.{Resume}
use Rattle.session_definitions.specs.Replies.{Reply, Open, agreed, OfCursor, OfNoCursor, IsReplyTo}
use Rattle.reader_session.specs.declared.reading.Reading.{Reading}
use Rattle.reader_session.specs.Readings.{IsReadingOver, GoesOn, state_of}
use Rattle.reader_session.specs.Resumed.{IsResumed, value_of_mark}
use Rattle.reader_session.proofs.RefusedReplies.{if_refused}

-- it is a reply to `resume` with what was read as a bookmark, if anything was
abbrev IsReplyToResume : SearchedLexicon → Option (Box Reading) → Option (Box ProgramBookmark) → Reply → Type 0
IsReplyToResume searched old mark reply =
    IsReplyTo searched.lexicon (state_of searched.lexicon.rules old) (Resume (value_of_mark mark)) reply

goes_on_resumed : (searched : SearchedLexicon) (old : Option (Box Reading)) (mark : Box ProgramBookmark) (before now : List ℕ) (reading : Box Reading)
    → IsResumed searched (bookmark_of mark.value) (Some reading.value) → now ≡ before ++ output_line (codes "ok")
    → GoesOn searched (IsReplyToResume searched old (Some mark)) before now (Some reading)
goes_on_resumed searched old mark before now reading resumed e = record {
  reply = agreed (after_resume (bookmark_of mark.value) resumed.0);
  is_it = OfCursor resumed.0 resumed.1.is_cursor refl;
  bytes = e;
  is_reading = resumed.1.is_reading;
  stands = ap Open (sym resumed.1.state);
}

-- a bookmark over the lexicon is gone on from
pub reply_resumed : (searched : SearchedLexicon) (old : Option (Box Reading)) (read : Option (Box ProgramBookmark)) (mark : Box ProgramBookmark)
    (outcome : Option Reading) (reading : Box Reading) (before now : List ℕ) → read ≡ Some mark → outcome ≡ Some reading.value
    → IsResumed searched (bookmark_of mark.value) outcome → now ≡ before ++ output_line (codes "ok")
    → GoesOn searched (IsReplyToResume searched old read) before now (Some reading)
reply_resumed searched old read mark outcome reading before now e some resumed bytes =
    subst (λ read. GoesOn searched (IsReplyToResume searched old read) before now (Some reading)) (sym e)
    (goes_on_resumed searched old mark before now reading (subst (IsResumed searched (bookmark_of mark.value)) some resumed) bytes)

-- any other is refused
pub reply_not_resumed : {E : Type 0} (searched : SearchedLexicon) (old : Option (Box Reading)) (read : Option (Box ProgramBookmark))
    (mark : Box ProgramBookmark) (outcome : Option Reading) (before now : List ℕ) (result : Result (Option (Box Reading)) E)
    → read ≡ Some mark → outcome ≡ None → IsReadingOver searched old → IsResumed searched (bookmark_of mark.value) outcome
    → OnOk result (now ≡ before ++ output_line (codes "? " ++ codes "bookmark")) → IfOk result (λ same. same ≡ old)
    → IfOk result (GoesOn searched (IsReplyToResume searched old read) before now)
reply_not_resumed searched old read mark outcome before now result e none is resumed bytes same =
    subst (λ read. IfOk result (GoesOn searched (IsReplyToResume searched old read) before now)) (sym e)
    (if_refused searched old (IsReplyToResume searched old (Some mark)) (codes "bookmark") before now result is
    (OfNoCursor (subst (IsResumed searched (bookmark_of mark.value)) none resumed) refl) bytes same)

-- and so is what is no bookmark
pub reply_not_read : {E : Type 0} (searched : SearchedLexicon) (old : Option (Box Reading)) (read : Option (Box ProgramBookmark))
    (before now : List ℕ) (result : Result (Option (Box Reading)) E) → read ≡ None → IsReadingOver searched old
    → OnOk result (now ≡ before ++ output_line (codes "? " ++ codes "bookmark")) → IfOk result (λ same. same ≡ old)
    → IfOk result (GoesOn searched (IsReplyToResume searched old read) before now)
reply_not_read searched old read before now result e is bytes same =
    subst (λ read. IfOk result (GoesOn searched (IsReplyToResume searched old read) before now)) (sym e)
    (if_refused searched old (IsReplyToResume searched old None) (codes "bookmark") before now result is refl bytes same)
