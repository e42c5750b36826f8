-- Each step is named by the phase, the form and the rule that are found, or at fault by the first that is not; and steps are named one
-- after another: what the rest names comes after the links so far.
use Rattle.std.proofs.Common.{◌≡◌, ℕ, ◌+◌, ◌≤◌, ◌⊎◌, inl, inr, Bool, true, false, cond, Option, Some, None, Result, Ok, Err, List, [], ◌∷◌, ◌++◌, length, All, position, refl, sym, ◌∙◌, ap, arith, append_assoc, append-nil}
use Rattle.std.specs.List.{AllByRecursion}
use Rattle.std.specs.Str.{bytes_eq}
use Rattle.std.proofs.lemmas.List.{length-map}
use Rattle.std.proofs.lemmas.List.Elements.{All-from_recursion}
use Rattle.lexicon_definitions.specs.Lexicons.{Lexicon, RuleSet}
use Rattle.segmentation_definitions.specs.Derivations.{Step, IsRuleNumber}
use Rattle.chain_definitions.specs.ChainFaults as faults
use Rattle.chain_definitions.specs.ChainFaults.{Why, Fault}
use Rattle.chain_definitions.specs.ChainTexts.{WrittenStep}
use Rattle.chain_definitions.specs.ChainReadings.{phase_with_name, has_form, rule_with_words, step_with_phase, step_with_rule, step_named, step_then, steps_named}
use Rattle.chain_definitions.proofs.WrittenChains.{written_of}
use Rattle.chain_definitions.proofs.NamedChains.{HaveRules, steps_tell}

-- ---- one step

-- the phase that was found is the one with the name
pub phase_told : (rules told : RuleSet) (names : List (List ℕ)) (name bytes : List ℕ) (phase : Option ℕ) → phase ≡ position (bytes_eq bytes) names
    → names ≡ told.names → told ≡ rules → bytes ≡ name → phase ≡ phase_with_name rules name
phase_told rules told names name bytes phase found are same is =
    found ∙ (λ i. position (bytes_eq (is i)) (are i)) ∙ ap (λ (r : RuleSet). phase_with_name r name) same

module _ (lexicon : Lexicon) (step : WrittenStep) where
  pub no_phase : None ≡ phase_with_name lexicon.rules step.form.name → step_named lexicon step ≡ Err faults.Phase
  unfolding step_named
  no_phase h = ap (step_with_phase lexicon step) (sym h)

  module _ (phase : ℕ) (named : Some phase ≡ phase_with_name lexicon.rules step.form.name) where
    pub no_form : (test : Bool) → test ≡ has_form lexicon phase step.form.letters → test ≡ false → step_named lexicon step ≡ Err faults.Form
    unfolding step_named
    no_form test h fails =
        ap (step_with_phase lexicon step) (sym named)
        ∙ ap (λ b. cond b (step_with_rule phase step.form.letters (rule_with_words lexicon.rules step.change)) (Err faults.Form)) (sym h ∙ fails)

    module _ (test : Bool) (told : test ≡ has_form lexicon phase step.form.letters) (holds : test ≡ true) where
      by_number : step_named lexicon step ≡ step_with_rule phase step.form.letters (rule_with_words lexicon.rules step.change)
      unfolding step_named
      by_number =
          ap (step_with_phase lexicon step) (sym named)
          ∙ ap (λ b. cond b (step_with_rule phase step.form.letters (rule_with_words lexicon.rules step.change)) (Err faults.Form)) (sym told ∙ holds)

      pub no_rule : None ≡ rule_with_words lexicon.rules step.change → step_named lexicon step ≡ Err faults.Rule
      no_rule h = by_number ∙ ap (step_with_rule phase step.form.letters) (sym h)

      pub is_named : (number : ℕ) → Some number ≡ rule_with_words lexicon.rules step.change
          → step_named lexicon step ≡ Ok (record { phase = phase; form = step.form.letters; rule = number })
      is_named number h = by_number ∙ ap (step_with_rule phase step.form.letters) (sym h)

-- ---- one step after another

-- the links so far, and those that are named after them, or the fault there
abbrev pub with_named : List Step → Result (List Step) Fault → Result (List Step) Fault
with_named links (Err fault) = Err fault
with_named links (Ok more) = Ok (links ++ more)

-- what all steps name, where these are the links so far, and these steps are left, of which the first has this number
abbrev pub AreNamedSoFar : Lexicon → List WrittenStep → List Step → ℕ → List WrittenStep → Type 0
AreNamedSoFar lexicon all links number left = with_named links (steps_named lexicon number left) ≡ steps_named lexicon 1 all

none_named : (told : Result (List Step) Fault) → with_named [] told ≡ told
none_named (Err fault) = refl
none_named (Ok steps) = refl

one_more : (links : List Step) (number : ℕ) (link : Step) (told : Result (List Step) Fault)
    → with_named (links ++ link ∷ []) told ≡ with_named links (step_then number (Ok link) told)
one_more links number link (Err fault) = refl
one_more links number link (Ok more) = ap Ok (append_assoc links (link ∷ []) more)

module _ (lexicon : Lexicon) (all : List WrittenStep) where
  pub first_link : AreNamedSoFar lexicon all [] 1 all
  first_link = none_named (steps_named lexicon 1 all)

  module _ (links : List Step) (number : ℕ) (left following : List WrittenStep) (step : WrittenStep)
      (so_far : AreNamedSoFar lexicon all links number left) (left_is : left ≡ step ∷ following) where
    here : with_named links (step_then number (step_named lexicon step) (steps_named lexicon (number + 1) following)) ≡ steps_named lexicon 1 all
    here = ap (λ steps. with_named links (steps_named lexicon number steps)) (sym left_is) ∙ so_far

    pub link_named : (link : Step) (new : List Step) → step_named lexicon step ≡ Ok link → new ≡ links ++ link ∷ []
        → AreNamedSoFar lexicon all new (number + 1) following
    link_named link new h is =
        ap (λ ls. with_named ls (steps_named lexicon (number + 1) following)) is
        ∙ one_more links number link (steps_named lexicon (number + 1) following)
        ∙ ap (λ s. with_named links (step_then number s (steps_named lexicon (number + 1) following))) (sym h)
        ∙ here

    pub link_refused : (why : Why) → step_named lexicon step ≡ Err why → steps_named lexicon 1 all ≡ Err (record { step = number; why = why })
    link_refused why h =
        sym here ∙ ap (λ s. with_named links (step_then number s (steps_named lexicon (number + 1) following))) h

  pub all_named : (links : List Step) (number : ℕ) (left : List WrittenStep) → AreNamedSoFar lexicon all links number left → left ≡ []
      → steps_named lexicon 1 all ≡ Ok links
  all_named links number left so_far none =
      sym so_far ∙ ap (λ steps. with_named links (steps_named lexicon number steps)) none ∙ ap Ok (append-nil links)

-- ---- the rules of what is named

number_low : (rules : RuleSet) (number : ℕ) → (number ≡ 0) ⊎ IsRuleNumber rules number → number ≤ length rules.rules
number_low rules number h = elim h [ inl none ↦ omega (arith, none) | inr is ↦ is.1 ]

numbers_low : (rules : RuleSet) (steps : List Step) → HaveRules rules steps → AllByRecursion (λ (step : Step). step.rule ≤ length rules.rules) steps
numbers_low rules [] h = tt
numbers_low rules (step ∷ steps) h = (number_low rules step.rule h.0, numbers_low rules steps h.1)

pub rules_low : (lexicon : Lexicon) (written : List WrittenStep) (links : List Step) → steps_named lexicon 1 written ≡ Ok links
    → All (λ (step : Step). step.rule ≤ length lexicon.rules.rules) links
rules_low lexicon written links h =
    All-from_recursion (λ (step : Step). step.rule ≤ length lexicon.rules.rules) links
    (numbers_low lexicon.rules links (steps_tell lexicon 1 written links h).numbers)

-- there are as many links as steps
pub as_many : (lexicon : Lexicon) (written : List WrittenStep) (links : List Step) → steps_named lexicon 1 written ≡ Ok links → length links ≡ length written
as_many lexicon written links h =
    sym (ap length (steps_tell lexicon 1 written links h).are_written ∙ length-map links (written_of lexicon.rules))
