-- A refusal leaves what is read as it was: by what the call of `refuse` gave.
use Rattle.std.proofs.Common.{◌≡◌, ℕ, Option, Result, Ok, Err, IfOk, OnOk, List, ◌++◌, codes, refl, sym, subst}
use Rattle.segmentation_definitions.specs.PrintedAnswers.{output_line}
use Rattle.std.specs.Global.{Box}
use Rattle.annotated_trie.specs.Searched.{SearchedLexicon}
use Rattle.session_definitions.specs.Replies.{Reply, refused}
use Rattle.reader_session.specs.declared.reading.Reading.{Reading}
use Rattle.reader_session.specs.Readings.{IsReadingOver, GoesOn, state_of}

-- where the reply is a refusal, and what is read stays, the session goes on
pub if_refused : {E : Type 0} (searched : SearchedLexicon) (old : Option (Box Reading)) (IsIt : Reply → Type 0) (why before now : List ℕ)
    (result : Result (Option (Box Reading)) E) → IsReadingOver searched old → IsIt (refused (state_of searched.lexicon.rules old) why)
    → OnOk result (now ≡ before ++ output_line (codes "? " ++ why)) → IfOk result (λ same. same ≡ old)
    → IfOk result (GoesOn searched IsIt before now)
if_refused searched old IsIt why before now (Ok reading) is is_it bytes same =
    subst (GoesOn searched IsIt before now) (sym same) (record {
      reply = refused (state_of searched.lexicon.rules old) why;
      is_it = is_it;
      bytes = bytes;
      is_reading = is;
      stands = refl;
    })
if_refused searched old IsIt why before now (Err error) is is_it bytes same = tt
