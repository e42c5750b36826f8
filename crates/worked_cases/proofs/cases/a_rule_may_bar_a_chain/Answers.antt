-- The texts are read by computing, and so are the phases that the rules allow.
use Rattle.std.proofs.Common.{◌≡◌, ℕ, inl, inr, List, [], ◌∷◌, ◌++◌, length, refl, ap, arith}
use Rattle.std.proofs.lemmas.List.{length-append}
use Rattle.text_definitions.specs.Slp1.{slp1_table, word_of_slp1}
use Rattle.chain_definitions.specs.ChainReadings.{step_named}
use Rattle.chain_definitions.specs.ChainTexts.{form_of_text, triple_of_text, change_between, change_at_end, steps_of_text}
use Rattle.worked_cases.specs.WorkedLexicons.{word_caa, word_iti}
use Rattle.worked_cases.proofs.cases.a_rule_may_bar_a_chain.Goals as goal

-- cA does not end in a
no_short_a : (front : List ℕ) → word_caa ≡ front ++ 1 ∷ [] → ⊥
no_short_a [] same = cc (same)
no_short_a (x ∷ []) same = cc (same)
no_short_a (x ∷ y ∷ front) same = let longer = ap length same in let count = length-append front (1 ∷ []) in omega (arith, longer, count)

pub returns-clause-before : goal.returns-clause-before
unfolding slp1_table word_of_slp1 step_named form_of_text triple_of_text change_between change_at_end steps_of_text
returns-clause-before c = inl (refl, inl (refl, λ allows. (allows (λ e. cc (e))).0 refl))

pub returns-clause-after : goal.returns-clause-after
unfolding slp1_table word_of_slp1 step_named form_of_text triple_of_text change_between change_at_end steps_of_text
returns-clause-after c = inl (refl, inl (refl, λ allows. (allows (λ e. cc (e))).1 refl))

pub returns-clause-barred_first : goal.returns-clause-barred_first
unfolding slp1_table word_of_slp1 step_named form_of_text triple_of_text change_between change_at_end steps_of_text
returns-clause-barred_first c = inl (refl, inl (refl, λ allows. (allows (λ e. cc (e))).1 refl))

pub returns-clause-meet : goal.returns-clause-meet
unfolding slp1_table word_of_slp1 step_named form_of_text triple_of_text change_between change_at_end steps_of_text
returns-clause-meet c = inl (refl, inr (refl, (λ some. ((λ e. cc (e)), (λ e. cc (e)))), (λ meets. no_short_a meets.0.0.0 meets.0.0.1)))

pub returns-clause-allowed : goal.returns-clause-allowed
unfolding slp1_table word_of_slp1 step_named form_of_text triple_of_text change_between change_at_end steps_of_text
returns-clause-allowed c = (
  refl,
  (
    (λ some. ((λ e. cc (e)), (λ e. cc (e)))),
    (((22 ∷ [], refl), (32 ∷ 3 ∷ [], refl)), (λ none. absurd (cc (none)))),
    ((λ some. absurd (some refl)), (word_iti, refl), tt),
  ),
)
