-- A reply after which the session goes on, and the others; by the cases of a result.
use Rattle.std.proofs.Common.{◌≡◌, ◌++◌, List, ℕ, Option, Result, Ok, Err, IfOk, OnOk, refl, sym, subst}
use Rattle.std.specs.Prelude.{codes}
use Rattle.segmentation_definitions.specs.PrintedAnswers.{output_line}
use Rattle.session_definitions.specs.Requests.{NoWord}
use Rattle.session_definitions.specs.Replies.{Reply, Over, IsReplyTo}
use Rattle.std.specs.Global.{Box}
use Rattle.annotated_trie.specs.Searched.{SearchedLexicon}
use Rattle.reader_session.specs.declared.reading.Reading.{Reading}
use Rattle.reader_session.specs.Readings.{IsReadingOver, GoesOn, state_of}
use Rattle.reader_session.proofs.RefusedReplies.{if_refused}
use Rattle.reader_session.specs.declared.request.Request as asked_data
use Rattle.reader_session.specs.declared.request.Request.TheVariants as asked
use Rattle.reader_session.specs.Meant.{request_meant}
use Rattle.reader_session.specs.declared.after.After.{After}
use Rattle.reader_session.specs.declared.after.After.TheVariants as after
use Rattle.reader_session.specs.Answered.{Answered, opened}

answered : {E : Type 0} (searched : SearchedLexicon) (IsIt : Reply → Type 0) (before now : List ℕ) (reply : Result (Option (Box Reading)) E)
    → IfOk reply (GoesOn searched IsIt before now) → IfOk (opened reply) (Answered searched IsIt before now)
answered searched IsIt before now (Err e) on = tt
answered searched IsIt before now (Ok reading) on = record {
  reply = on.reply;
  is_it = on.is_it;
  bytes = on.bytes;
  is_reading = on.is_reading;
  stands = on.stands;
}

-- after a reply the session goes on
pub goes_on : {E : Type 0} (searched : SearchedLexicon) (IsIt : Reply → Type 0) (before now : List ℕ) (reply : Result (Option (Box Reading)) E)
    (result : Result (Option (Box Reading) × After) E) → result ≡ opened reply → IfOk reply (GoesOn searched IsIt before now)
    → IfOk result (Answered searched IsIt before now)
goes_on searched IsIt before now reply result is on =
    subst (λ r. IfOk r (Answered searched IsIt before now)) (sym is) (answered searched IsIt before now reply on)

-- a word that no request begins with is refused
pub no_word : {E : Type 0} (searched : SearchedLexicon) (old : Option (Box Reading)) (before now : List ℕ) (reply : Result (Option (Box Reading)) E)
    → IsReadingOver searched old → OnOk reply (now ≡ before ++ output_line (codes "? " ++ codes "word"))
    → IfOk reply (λ same. same ≡ old)
    → IfOk reply (GoesOn searched (IsReplyTo searched.lexicon (state_of searched.lexicon.rules old) NoWord) before now)
no_word searched old before now reply is_reading bytes same =
    if_refused searched old (IsReplyTo searched.lexicon (state_of searched.lexicon.rules old) NoWord) (codes "word") before now reply
    is_reading refl bytes same

-- the session is over
pub over : (searched : SearchedLexicon) (old : Option (Box Reading)) (request : asked_data.Request) (before now : List ℕ) → request ≡ asked.Quit
    → IsReadingOver searched old → now ≡ before ++ output_line (codes "bye")
    → Answered searched (IsReplyTo searched.lexicon (state_of searched.lexicon.rules old) (request_meant request)) before now (old, after.Over)
over searched old request before now is_quit is_reading bytes =
    subst (λ r. Answered searched (IsReplyTo searched.lexicon (state_of searched.lexicon.rules old) (request_meant r)) before now (old, after.Over))
    (sym is_quit)
    (record { reply = record { bytes = output_line (codes "bye"); after = Over }; is_it = refl; bytes = bytes; is_reading = is_reading; stands = refl })
