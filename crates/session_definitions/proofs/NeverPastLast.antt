-- No reply leads past the last answer: a page leaves the session at an answer or where it was, a bookmark has the keys of an answer
-- or no keys, and else the session stands before the first.
use Rattle.std.proofs.Common.{◌≡◌, List, [], ◌∷◌, subst, sym}
use Rattle.text_definitions.specs.Lines.{Line}
use Rattle.lexicon_definitions.specs.Lexicons.{Lexicon}
use Rattle.segmentation_definitions.specs.Derivations.{Step}
use Rattle.segmentation_definitions.specs.Items.{Choice}
use Rattle.segmentation_definitions.specs.Listings.{Cursor, BeforeFirst, AtAnswer, PastLast, cursor_after, Key}
use Rattle.session_definitions.specs.States.{State}
use Rattle.session_definitions.specs.Replies.{IsCursorOfKeys}
use Rattle.session_definitions.specs.ReachedStates.{IsReached}
use Rattle.session_definitions.proofs.KeptStates.{AreKept, kept}

-- the cursor is before the first answer or at one
abbrev StandsBefore : Cursor → Type 0
StandsBefore BeforeFirst = Unit {0}
StandsBefore (AtAnswer steps) = Unit {0}
StandsBefore PastLast = ⊥

after_page : (cursor : Cursor) (answers : List (List Step)) → StandsBefore cursor → StandsBefore (cursor_after cursor answers)
after_page cursor [] p = p
after_page cursor (steps ∷ answers) p = after_page (AtAnswer steps) answers tt

of_keys : (lexicon : Lexicon) (line : Line) (choices : List Choice) (keys : List Key) (cursor : Cursor)
    → IsCursorOfKeys lexicon line choices keys cursor → StandsBefore cursor
of_keys lexicon line choices [] cursor e = subst StandsBefore (sym e) tt
of_keys lexicon line choices (key ∷ keys) cursor (steps, answer, same, e) = subst StandsBefore (sym e) tt

are_kept : (lexicon : Lexicon) → AreKept lexicon (λ state. StandsBefore state.cursor)
are_kept lexicon = record {
  opens = tt;
  reads = λ scheme text line e. tt;
  prints = λ state line count answers more p e page. after_page state.cursor answers p;
  sums = λ state line items p e summary. p;
  chooses = λ state items kept number item p e f few. tt;
  undoes = λ state p. tt;
  resumes = λ text mark cursor e is. of_keys lexicon mark.line mark.choices mark.keys cursor is.keys;
}

-- no state of a session is past the last answer
pub never_past : (lexicon : Lexicon) (state : State) → IsReached lexicon state → state.cursor ≡ PastLast → ⊥
never_past lexicon state reached e =
    subst StandsBefore e (kept lexicon (λ (s : State). StandsBefore s.cursor) (are_kept lexicon) state reached)
