-- From the first line to the last: each has one reply, which says how the session goes on.
use Rattle.std.proofs.Common.{◌≡◌, ℕ, List, [], ◌∷◌, ◌++◌, sym, ◌∙◌, ap, subst}
use Rattle.lexicon_definitions.specs.Lexicons.{Lexicon}
use Rattle.lexicon_text_definitions.specs.FileLines as file
use Rattle.session_definitions.specs.SessionLines.{lines_of_input}
use Rattle.session_definitions.specs.States.{State, opening}
use Rattle.session_definitions.specs.Replies.{After, Open, Over, Reply}
use Rattle.session_definitions.specs.Sessions.{End, IsWrittenAfter, AreReplies, end_of, IsSession}
use Rattle.session_definitions.proofs.OneReply.{one_reply}

one_way_on : (after : After) (is_written : State → List ℕ → After → Type 0)
    → ((state : State) (left right : List ℕ) (a b : After) → is_written state left a → is_written state right b → (left ≡ right) × (a ≡ b))
    → (left right : List ℕ) (a b : After) → IsWrittenAfter after is_written left a → IsWrittenAfter after is_written right b
    → (left ≡ right) × (a ≡ b)
one_way_on (Open state) is_written one left right a b p q = one state left right a b p q
one_way_on Over is_written one left right a b p q = (p.0 ∙ sym q.0, p.1 ∙ sym q.1)

-- the replies to lines are one text at most, after which the session stands in one way
pub one_list_of_replies : (lexicon : Lexicon) (lines : List file.Line) (state : State) (left right : List ℕ) (a b : After)
    → AreReplies lexicon state lines left a → AreReplies lexicon state lines right b → (left ≡ right) × (a ≡ b)
one_list_of_replies lexicon [] state left right a b p q = (p.0 ∙ sym q.0, p.1 ∙ sym q.1)
one_list_of_replies lexicon (line ∷ lines) state left right a b (reply, rest, is, e, p) (other, more, other_is, f, q) =
    let same : reply ≡ other = one_reply lexicon state line reply other is other_is in
    let is_written : State → List ℕ → After → Type 0 = λ state rest after. AreReplies lexicon state lines rest after in
    let p_here : IsWrittenAfter other.after is_written rest a = subst (λ (r : Reply). IsWrittenAfter r.after is_written rest a) same p in
    let on = one_way_on other.after is_written (one_list_of_replies lexicon lines) rest more a b p_here q in
    (e ∙ (λ i. (same i).bytes ++ on.0 i) ∙ sym f, on.1)

pub one_session : (lexicon : Lexicon) (input left right : List ℕ) (left_end right_end : End) → IsSession lexicon input left left_end
    → IsSession lexicon input right right_end → (left ≡ right) × (left_end ≡ right_end)
one_session lexicon input left right left_end right_end p q =
    let one = one_list_of_replies lexicon (lines_of_input input) opening left right p.after q.after p.replies q.replies in
    (one.0, p.ends ∙ ap (λ (x : After). end_of x input) one.1 ∙ sym q.ends)
