-- The steps of a chain are named by what is written of them, since names of phases differ and so do rules; and what is named is
-- written so.
use Rattle.std.proofs.Common.{◌≡◌, ◌≢◌, ℕ, zero, suc, ◌+◌, ◌<◌, ◌≤◌, ◌⊎◌, inl, inr, Bool, true, false, cond, ◌&&◌, Option, Some, None, Result, Ok, Err, List, [], ◌∷◌, length, map, get_or, AllPairs, refl, sym, ◌∙◌, ap, subst, arith, position, add-one}
use Rattle.std.specs.Prelude.{option_map}
use Rattle.std.specs.List.{list_any}
use Rattle.std.specs.Str.{bytes_eq}
use Rattle.std.proofs.lemmas.Bool.{and_parts, and_from, false_from_ne_true}
use Rattle.std.proofs.lemmas.List.Quantifiers.{position-Some}
use Rattle.list_laws.proofs.Texts.{bytes_same, bytes_apart, bytes_itself}
use Rattle.lexicon_definitions.specs.Rules.{Rule, IsSameTriple, no_change}
use Rattle.lexicon_definitions.specs.Lexicons.{Lexicon, RuleSet, IsForm, IsRuleSet, rule_of}
use Rattle.lexicon_definitions.proofs.FirstPlaces.{position_is}
use Rattle.segmentation_definitions.specs.Derivations.{Step, IsRuleNumber, AreForms}
use Rattle.segmentation_definitions.specs.PrintedAnswers.{name_of}
use Rattle.chain_definitions.specs.ChainFaults as whys
use Rattle.chain_definitions.specs.ChainFaults.{Why, Fault}
use Rattle.chain_definitions.specs.ChainTexts.{Triple, WrittenForm, WrittenStep}
use Rattle.chain_definitions.specs.ChainReadings.{phase_with_name, has_form, has_words, rule_with_words, step_with_rule, step_with_phase, step_named, step_then, steps_named}
use Rattle.chain_definitions.proofs.FormTests.{form_from_test, test_from_form}
use Rattle.chain_definitions.proofs.WrittenChains.{triple_of, change_of, written_of}

-- ---- phases and rules

phase_back : (names : List (List ℕ)) (phase : ℕ) → AllPairs (λ left right. left ≢ right) names → phase < length names
    → position (bytes_eq (get_or names phase [])) names ≡ Some phase
phase_back names phase distinct low =
    sym (position_is (bytes_eq (get_or names phase [])) names phase [] low (bytes_itself (get_or names phase []))
    (λ k below. bytes_apart (get_or names phase []) (get_or names k []) (λ e. distinct k phase [] below low (sym e))))

same_words : (triple : Triple) (rule : Rule) → triple ≡ triple_of rule → has_words triple rule ≡ true
same_words triple rule e =
    ap (λ t. has_words t rule) e ∙ and_from _ _ (and_from _ _ (bytes_itself rule.u) (bytes_itself rule.v)) (bytes_itself rule.w)

words_same : (triple : Triple) (rule : Rule) → has_words triple rule ≡ true → triple ≡ triple_of rule
words_same triple rule h =
    let parts = and_parts (bytes_eq triple.u rule.u && bytes_eq triple.v rule.v) (bytes_eq triple.w rule.w) h in
    let front = and_parts (bytes_eq triple.u rule.u) (bytes_eq triple.v rule.v) parts.0 in
    λ i. record { u = bytes_same triple.u rule.u front.0 i; v = bytes_same triple.v rule.v front.1 i; w = bytes_same triple.w rule.w parts.1 i }

other_words : (rule other : Rule) → (IsSameTriple other rule → ⊥) → has_words (triple_of rule) other ≡ false
other_words rule other differ =
    false_from_ne_true (has_words (triple_of rule) other) (λ h.
    let same = words_same (triple_of rule) other h in
    differ (sym (ap (λ (t : Triple). t.u) same), sym (ap (λ (t : Triple). t.v) same), sym (ap (λ (t : Triple). t.w) same)))

rule_back : (rules : RuleSet) (number : ℕ) → IsRuleSet rules → (number ≡ 0) ⊎ IsRuleNumber rules number
    → rule_with_words rules (change_of rules number) ≡ Some number
rule_back rules zero set h = refl
rule_back rules (suc number) set h = elim h [
  | inl none ↦ absurd (omega (arith, none))
  | inr within ↦
      let low : number < length rules.rules = omega (arith, within.1) in
      let rule = get_or rules.rules number no_change in
      ap (option_map (λ place. place + 1)) (sym (position_is (has_words (triple_of rule)) rules.rules number no_change low
      (same_words (triple_of rule) rule refl)
      (λ k below. other_words rule (get_or rules.rules k no_change) (set.distinct k number no_change below low))))
      ∙ ap Some (add-one number)
]

-- ---- steps

pub step_back : (lexicon : Lexicon) (step : Step) → IsRuleSet lexicon.rules → step.phase < length lexicon.rules.names
    → IsForm lexicon step.phase step.form → (step.rule ≡ 0) ⊎ IsRuleNumber lexicon.rules step.rule
    → step_named lexicon (written_of lexicon.rules step) ≡ Ok step
unfolding step_named
step_back lexicon step set low form number =
    ap (step_with_phase lexicon (written_of lexicon.rules step)) (phase_back lexicon.rules.names step.phase set.distinct_names low)
    ∙ ap (λ test. cond test (step_with_rule step.phase step.form (rule_with_words lexicon.rules (change_of lexicon.rules step.rule))) (Err whys.Form))
    (test_from_form lexicon step.phase step.form form)
    ∙ ap (step_with_rule step.phase step.form) (rule_back lexicon.rules step.rule set number)

-- what is told of a step that is named
pub record IsNamedStep (lexicon : Lexicon) (written : WrittenStep) (step : Step) : Type 0 where
  pub is_written : written ≡ written_of lexicon.rules step
  pub form : IsForm lexicon step.phase step.form
  pub number : (step.rule ≡ 0) ⊎ IsRuleNumber lexicon.rules step.rule

by_place : (rules : RuleSet) (triple : Triple) (number : ℕ) (place : Option ℕ) → position (has_words triple) rules.rules ≡ place
    → option_map (λ place. place + 1) place ≡ Some number
    → (Some triple ≡ change_of rules number) × ((number ≡ 0) ⊎ IsRuleNumber rules number)
by_place rules triple number None e h = absurd (cc)
by_place rules triple number (Some place) e h =
    let found = position-Some (has_words triple) rules.rules place no_change e in
    let is : suc place ≡ number = sym (add-one place) ∙ (let same : place + 1 ≡ number = cc in same) in
    subst (λ n. (Some triple ≡ change_of rules n) × ((n ≡ 0) ⊎ IsRuleNumber rules n)) is
    (ap Some (words_same triple (get_or rules.rules place no_change) found.1), inr (omega arith, omega (arith, found.0)))

-- the number that was found is that of a rule with these words, or of no change
rule_found : (rules : RuleSet) (change : Option Triple) (number : ℕ) → rule_with_words rules change ≡ Some number
    → (change ≡ change_of rules number) × ((number ≡ 0) ⊎ IsRuleNumber rules number)
rule_found rules None number h =
    let none : 0 ≡ number = cc in
    (ap (change_of rules) none, inl (sym none))
rule_found rules (Some triple) number h = by_place rules triple number (position (has_words triple) rules.rules) refl h

by_rule : (lexicon : Lexicon) (written : WrittenStep) (phase : ℕ) (step : Step) (number : Option ℕ)
    → written.form.name ≡ name_of lexicon.rules phase → has_form lexicon phase written.form.letters ≡ true
    → rule_with_words lexicon.rules written.change ≡ number → step_with_rule phase written.form.letters number ≡ Ok step
    → IsNamedStep lexicon written step
by_rule lexicon written phase step None name form e h = absurd (cc)
by_rule lexicon written phase step (Some number) name form e h =
    let same : record { phase = phase; form = written.form.letters; rule = number } ≡ step = cc in
    let found = rule_found lexicon.rules written.change number e in
    subst (IsNamedStep lexicon written) same (record {
      is_written = λ i. record { form = record { letters = written.form.letters; name = name i }; change = found.0 i };
      form = form_from_test lexicon phase written.form.letters form;
      number = found.1;
    })

by_form : (lexicon : Lexicon) (written : WrittenStep) (phase : ℕ) (step : Step) (test : Bool) → written.form.name ≡ name_of lexicon.rules phase
    → has_form lexicon phase written.form.letters ≡ test
    → cond test (step_with_rule phase written.form.letters (rule_with_words lexicon.rules written.change)) (Err whys.Form) ≡ Ok step
    → IsNamedStep lexicon written step
by_form lexicon written phase step true name e h =
    by_rule lexicon written phase step (rule_with_words lexicon.rules written.change) name e refl h
by_form lexicon written phase step false name e h = absurd (cc)

by_phase : (lexicon : Lexicon) (written : WrittenStep) (step : Step) (phase : Option ℕ) → phase_with_name lexicon.rules written.form.name ≡ phase
    → step_with_phase lexicon written phase ≡ Ok step → IsNamedStep lexicon written step
by_phase lexicon written step None e h = absurd (cc)
by_phase lexicon written step (Some phase) e h =
    let found = position-Some (bytes_eq written.form.name) lexicon.rules.names phase [] e in
    by_form lexicon written phase step (has_form lexicon phase written.form.letters)
    (bytes_same written.form.name (get_or lexicon.rules.names phase []) found.1) refl h

pub step_tells : (lexicon : Lexicon) (written : WrittenStep) (step : Step) → step_named lexicon written ≡ Ok step → IsNamedStep lexicon written step
unfolding step_named
step_tells lexicon written step h = by_phase lexicon written step (phase_with_name lexicon.rules written.form.name) refl h

-- ---- all steps

-- each step has a form of a phase that has a name, and no rule or one of the rules
abbrev pub AreNameable : Lexicon → List Step → Type 0
AreNameable lexicon [] = Unit {0}
AreNameable lexicon (step ∷ steps) =
    (step.phase < length lexicon.rules.names) × IsForm lexicon step.phase step.form × ((step.rule ≡ 0) ⊎ IsRuleNumber lexicon.rules step.rule)
    × AreNameable lexicon steps

pub steps_back : (lexicon : Lexicon) (number : ℕ) (steps : List Step) → IsRuleSet lexicon.rules → AreNameable lexicon steps
    → steps_named lexicon number (map (written_of lexicon.rules) steps) ≡ Ok steps
steps_back lexicon number [] set are = refl
steps_back lexicon number (step ∷ steps) set are =
    ap (λ s. step_then number s (steps_named lexicon (number + 1) (map (written_of lexicon.rules) steps))) (step_back lexicon step set are.0 are.1 are.2)
    ∙ ap (step_then number (Ok step)) (steps_back lexicon (number + 1) steps set are.3)

-- each step has no rule or one of the rules
abbrev pub HaveRules : RuleSet → List Step → Type 0
HaveRules rules [] = Unit {0}
HaveRules rules (step ∷ steps) = ((step.rule ≡ 0) ⊎ IsRuleNumber rules step.rule) × HaveRules rules steps

-- what is told of steps that are named
pub record AreNamedSteps (lexicon : Lexicon) (written : List WrittenStep) (steps : List Step) : Type 0 where
  pub are_written : written ≡ map (written_of lexicon.rules) steps
  pub forms : AreForms lexicon steps
  pub numbers : HaveRules lexicon.rules steps

one_named : (lexicon : Lexicon) (number : ℕ) (written : WrittenStep) (others : List WrittenStep) (steps : List Step) (first : Result Step Why)
    (rest : Result (List Step) Fault) → step_named lexicon written ≡ first → ((more : List Step) → rest ≡ Ok more → AreNamedSteps lexicon others more)
    → step_then number first rest ≡ Ok steps → AreNamedSteps lexicon (written ∷ others) steps
one_named lexicon number written others steps (Err why) rest e later h = absurd (cc)
one_named lexicon number written others steps (Ok step) (Err fault) e later h = absurd (cc)
one_named lexicon number written others steps (Ok step) (Ok more) e later h =
    let same : step ∷ more ≡ steps = cc in
    let here = step_tells lexicon written step e in
    let there = later more refl in
    subst (AreNamedSteps lexicon (written ∷ others)) same (record {
      are_written = ap (λ w. w ∷ others) here.is_written ∙ ap (◌∷◌ (written_of lexicon.rules step)) there.are_written;
      forms = (here.form, there.forms);
      numbers = (here.number, there.numbers);
    })

pub steps_tell : (lexicon : Lexicon) (number : ℕ) (written : List WrittenStep) (steps : List Step) → steps_named lexicon number written ≡ Ok steps
    → AreNamedSteps lexicon written steps
steps_tell lexicon number [] steps h =
    let none : [] ≡ steps = cc in
    subst (AreNamedSteps lexicon []) none (record { are_written = refl; forms = tt; numbers = tt })
steps_tell lexicon number (written ∷ others) steps h =
    one_named lexicon number written others steps (step_named lexicon written) (steps_named lexicon (number + 1) others) refl
    (λ more e. steps_tell lexicon (number + 1) others more e) h
