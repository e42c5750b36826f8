-- Along the first lines: each has one reply, after which either the session is over and nothing more is written, or the others
-- are replied to from the state in which it left the session.
use Rattle.std.proofs.Common.{◌≡◌, ℕ, List, [], ◌∷◌, ◌++◌, refl, sym, ◌∙◌, subst, append_assoc}
use Rattle.lexicon_definitions.specs.Lexicons.{Lexicon}
use Rattle.lexicon_text_definitions.specs.FileLines as file
use Rattle.session_definitions.specs.States.{State}
use Rattle.session_definitions.specs.Replies.{After, Open, Over, Reply}
use Rattle.session_definitions.specs.Sessions.{IsWrittenAfter, AreReplies}
use Rattle.session_definitions.proofs.OneReply.{one_reply}

-- what is written for these lines from any state on
abbrev pub IsWrittenFor : Lexicon → List file.Line → State → List ℕ → After → Type 0
IsWrittenFor lexicon lines state output after = AreReplies lexicon state lines output after

joined_after : (middle : After) (first second whole : State → List ℕ → After → Type 0) (rest tail : List ℕ) (a b : After)
    → ((state : State) → first state rest a → whole state (rest ++ tail) b)
    → IsWrittenAfter middle first rest a → IsWrittenAfter a second tail b → IsWrittenAfter middle whole (rest ++ tail) b
joined_after (Open state) first second whole rest tail a b join p q = join state p
joined_after Over first second whole rest tail a b join (none, over) q =
    let (empty, still) : (tail ≡ []) × (b ≡ Over) = subst (λ (x : After). IsWrittenAfter x second tail b) over q in
    ((λ i. none i ++ tail) ∙ empty, still)

-- the replies to some lines, and then what is written for others, are together what is written for all of them
pub joined : (lexicon : Lexicon) (lines others : List file.Line) (state : State) (front tail : List ℕ) (a b : After)
    → AreReplies lexicon state lines front a → IsWrittenAfter a (IsWrittenFor lexicon others) tail b
    → AreReplies lexicon state (lines ++ others) (front ++ tail) b
joined lexicon [] others state front tail a b (none, open_after) q =
    subst (λ (x : List ℕ). AreReplies lexicon state others (x ++ tail) b) (sym none)
    (subst (λ (x : After). IsWrittenAfter x (IsWrittenFor lexicon others) tail b) open_after q)
joined lexicon (line ∷ lines) others state front tail a b (reply, rest, is, e, p) q = (
  reply,
  rest ++ tail,
  is,
  (λ i. e i ++ tail) ∙ append_assoc reply.bytes rest tail,
  joined_after reply.after (IsWrittenFor lexicon lines) (IsWrittenFor lexicon others) (IsWrittenFor lexicon (lines ++ others)) rest tail a b
      (λ next here. joined lexicon lines others next rest tail a b here q) p q,
)

begun_after : (middle : After) (first second whole : State → List ℕ → After → Type 0) (rest more : List ℕ) (a b : After)
    → ((state : State) → first state rest a → whole state more b → (tail : List ℕ) × (more ≡ rest ++ tail) × IsWrittenAfter a second tail b)
    → IsWrittenAfter middle first rest a → IsWrittenAfter middle whole more b
    → (tail : List ℕ) × (more ≡ rest ++ tail) × IsWrittenAfter a second tail b
begun_after (Open state) first second whole rest more a b begin p q = begin state p q
begun_after Over first second whole rest more a b begin (none, over) (empty, still) = (
  [],
  empty ∙ (λ i. sym none i ++ []),
  subst (λ (x : After). IsWrittenAfter x second [] b) (sym over) (refl, still),
)

-- what is replied to the first lines begins what is written for all of them, and the rest is what is written for the others
pub begun : (lexicon : Lexicon) (lines others : List file.Line) (state : State) (front whole : List ℕ) (a b : After)
    → AreReplies lexicon state lines front a → AreReplies lexicon state (lines ++ others) whole b
    → (tail : List ℕ) × (whole ≡ front ++ tail) × IsWrittenAfter a (IsWrittenFor lexicon others) tail b
begun lexicon [] others state front whole a b (none, open_after) q = (
  whole,
  (λ i. sym none i ++ whole),
  subst (λ (x : After). IsWrittenAfter x (IsWrittenFor lexicon others) whole b) (sym open_after) q,
)
begun lexicon (line ∷ lines) others state front whole a b (reply, rest, is, e, p) (other, more, other_is, f, q) =
    let same : other ≡ reply = one_reply lexicon state line other reply other_is is in
    let q_here : IsWrittenAfter reply.after (IsWrittenFor lexicon (lines ++ others)) more b =
    subst (λ (r : Reply). IsWrittenAfter r.after (IsWrittenFor lexicon (lines ++ others)) more b) same q in
    let (tail, parts, follows) : (tail : List ℕ) × (more ≡ rest ++ tail) × IsWrittenAfter a (IsWrittenFor lexicon others) tail b =
    begun_after reply.after (IsWrittenFor lexicon lines) (IsWrittenFor lexicon others) (IsWrittenFor lexicon (lines ++ others)) rest more a b
    (λ next here there. begun lexicon lines others next rest more a b here there) p q_here in (
      tail,
      f ∙ (λ i. (same i).bytes ++ parts i) ∙ sym (append_assoc reply.bytes rest tail) ∙ (λ i. sym e i ++ tail),
      follows,
    )
