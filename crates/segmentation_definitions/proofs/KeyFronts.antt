-- Where the keys of one derivation of a word are the first keys of another, its last step stands in both. After it the
-- other would go on unchanged with a step over what is left of the word, which is nothing. Rules have a w that is not
-- empty, so there would be no rule after that step, and so its form would be empty; but no form is.
use Rattle.std.proofs.Common.{◌≡◌, ℕ, ◌⊎◌, inl, inr, List, [], ◌∷◌, ◌++◌, length, map, sym, ◌∙◌, ap, arith}
use Rattle.lexicon_definitions.specs.Lexicons.{Lexicon, RuleSet, rule_of, IsForm, IsLexicon}
use Rattle.segmentation_definitions.specs.Derivations.{Step, rule_after, IsRuleNumber, HasFinalRule, Meets, AreForms, AreJoined, EndsWell, Covers}
use Rattle.segmentation_definitions.specs.Items.{placed_from}
use Rattle.segmentation_definitions.specs.Listings.{Key, key_of}
use Rattle.segmentation_definitions.proofs.Coverings.{unchanged_at_zero, form_not_empty, takes_first, RuleAfter, Unchanged, Changed, rule_after_of_number}
use Rattle.segmentation_definitions.proofs.KeyLists.{same_cons, same_first_step}

-- after a step there is no change or a rule
pub has_rule : (rules : RuleSet) (z : Step) (zs : List Step) → AreJoined rules (z ∷ zs) → EndsWell rules (z ∷ zs)
    → (z.rule ≡ 0) ⊎ IsRuleNumber rules z.rule
has_rule rules z [] j (inl e) = inl e
has_rule rules z [] j (inr f) = inr f.0
has_rule rules z (y ∷ zs) (inl m, j) w = inl m.0
has_rule rules z (y ∷ zs) (inr m, j) w = inr m.0.0

-- a step that is last in one derivation, and in another is not, has no change after it
no_change_between : (rules : RuleSet) (x y z : Step) → x.rule ≡ y.rule → (x.rule ≡ 0) ⊎ HasFinalRule rules x → Meets rules y z
    → y.rule ≡ 0
no_change_between rules x y z e (inl n) m = sym e ∙ n
no_change_between rules x y z e (inr f) (inl m) = m.0
no_change_between rules x y z e (inr f) (inr m) = absurd (m.0.1 (ap (λ n. (rule_of rules n).v) (sym e) ∙ f.1))

-- no step with an empty lead stands where nothing is left of the word
no_step_at_end : (lexicon : Lexicon) → IsLexicon lexicon → (step : Step) (lead taken following : List ℕ) → length lead ≡ 0
    → RuleAfter lexicon.rules step → IsForm lexicon step.phase step.form → step.form ≡ lead ++ taken ++ (rule_after lexicon.rules step).u
    → [] ≡ taken ++ (rule_after lexicon.rules step).w ++ following → ⊥
no_step_at_end lexicon is step lead taken following none (Unchanged rule unchanged) form e w =
    let parts = takes_first lexicon.rules lead step [] taken following e w in
    omega (arith, form_not_empty lexicon step.phase step.form is form)
no_step_at_end lexicon is step lead taken following none (Changed rule u_some w_some) form e w =
    let parts = takes_first lexicon.rules lead step [] taken following e w in omega arith

-- the keys of a derivation are the first keys of another one of the same word only where they are all of them
pub no_more_keys : (lexicon : Lexicon) → IsLexicon lexicon → (xs ys : List Step) (i j : ℕ) (lead lead' word word' : List ℕ) (more : List Key)
    → lead ≡ lead' → word ≡ word' → EndsWell lexicon.rules xs → Covers lexicon.rules lead xs word []
    → AreForms lexicon ys → AreJoined lexicon.rules ys → EndsWell lexicon.rules ys → Covers lexicon.rules lead' ys word' []
    → map key_of (placed_from lexicon.rules j lead' ys) ≡ map key_of (placed_from lexicon.rules i lead xs) ++ more → more ≡ []
no_more_keys lexicon is [] ys i j lead lead' word word' more l w a p f g h q e = absurd a
no_more_keys lexicon is (x ∷ xs) [] i j lead lead' word word' more l w a p f g h q e = cc
no_more_keys lexicon is (x ∷ []) (y ∷ []) i j lead lead' word word' more l w a p f g h q e = sym (same_cons _ _ _ _ e).1
no_more_keys lexicon is (x ∷ []) (y ∷ z ∷ zs) i j lead lead' word word' more l w a (t, b, fx, wx, p) f g h (u, c, fy, wy, (r, d, fz, wz, q)) e =
    let rules = lexicon.rules in
    let keys = same_cons _ _ _ _ e in
    let first = same_first_step rules lead lead' word word' x y t b u c l w fx wx fy wy (sym keys.0) in
    let none : y.rule ≡ 0 = no_change_between rules x y z (ap (λ step. step.rule) first.0) a g.0 in
    let no_lead = (unchanged_at_zero rules y.rule none).v_empty in
    let following = rule_after_of_number rules z is.rules (has_rule rules z zs g.1 h) in
    absurd (no_step_at_end lexicon is z (rule_after rules y).v r d no_lead following f.1.0 fz (sym p ∙ first.1 ∙ wz))
no_more_keys lexicon is (x ∷ x' ∷ xs) (y ∷ []) i j lead lead' word word' more l w a p f g h q e =
    let none = (same_cons _ _ _ _ e).1 in cc
no_more_keys lexicon is (x ∷ x' ∷ xs) (y ∷ z ∷ zs) i j lead lead' word word' more l w a (t, b, fx, wx, p) f g h (u, c, fy, wy, q) e =
    let rules = lexicon.rules in
    let keys = same_cons _ _ _ _ e in
    let first = same_first_step rules lead lead' word word' x y t b u c l w fx wx fy wy (sym keys.0) in
    let leads = ap (λ step. (rule_after rules step).v) first.0 in
    no_more_keys lexicon is (x' ∷ xs) (z ∷ zs) _ _ _ _ b c more leads first.1 a p f.1 g.1 h q keys.1
