-- The local tests of all steps are those of each step after the steps before it: by recursion over the steps.
use Rattle.std.proofs.Common.{◌≡◌, ℕ, Bool, false, List, [], ◌∷◌, ◌++◌, length, refl, sym, ap, subst}
use Rattle.lexicon_definitions.specs.Lexicons.{RuleSet, rule_of}
use Rattle.segmentation_definitions.specs.Items.{Choice}
use Rattle.segmentation_definitions.specs.LocalTests.{Allows, AllAllow}
use Rattle.derivation.specs.declared.step.Step.{Step as ProgramStep}
use Rattle.derivation.specs.Steps.{placed_with, places_of}
use Rattle.reader_choices.specs.Allowing.{lead_from, is_first_after}

-- what is not first stays so
not_first : (before : List ProgramStep) → is_first_after false before ≡ false
not_first [] = refl
not_first (step ∷ before) = refl

module _ (rules : RuleSet) (letters : List ℕ) (choices : List Choice) where
  -- the step is allowed where it is entered with this lead, and is the first or not
  abbrev IsAllowed : Bool → List ℕ → ProgramStep → Type 0
  IsAllowed first lead step = Allows rules (length letters) choices first (placed_with rules letters lead step)

  -- each of the steps is allowed after those before it
  abbrev EachAllowed : Bool → List ℕ → List ProgramStep → Type 0
  EachAllowed first lead steps = (before : List ProgramStep) (step : ProgramStep) (rest : List ProgramStep)
      → steps ≡ before ++ step ∷ rest → IsAllowed (is_first_after first before) (lead_from rules lead before) step

  pub each_from_all : (first : Bool) (lead : List ℕ) (steps : List ProgramStep)
      → AllAllow rules (length letters) choices first (places_of rules letters lead steps) → EachAllowed first lead steps
  each_from_all first lead [] h [] step rest e = absurd (cc)
  each_from_all first lead [] h (other ∷ before) step rest e = absurd (cc)
  each_from_all first lead (x ∷ steps) h [] step rest e =
      let same : x ≡ step = cc in subst (IsAllowed first lead) same h.0
  each_from_all first lead (x ∷ steps) h (other ∷ before) step rest e =
      let same : x ≡ other = cc in
      let later : steps ≡ before ++ step ∷ rest = cc in
      let found = each_from_all false (rule_of rules x.rule).v steps h.1 before step rest later in
      let here : IsAllowed false (lead_from rules (rule_of rules x.rule).v before) step =
      subst (λ (b : Bool). IsAllowed b (lead_from rules (rule_of rules x.rule).v before) step) (not_first before) found in
      subst (λ (s : ProgramStep). IsAllowed false (lead_from rules (rule_of rules s.rule).v before) step) same here

  pub all_from_each : (first : Bool) (lead : List ℕ) (steps : List ProgramStep) → EachAllowed first lead steps
      → AllAllow rules (length letters) choices first (places_of rules letters lead steps)
  all_from_each first lead [] g = tt
  all_from_each first lead (x ∷ steps) g = (
    g [] x steps refl,
    all_from_each false (rule_of rules x.rule).v steps
        (λ before step rest e. subst (λ (b : Bool). IsAllowed b (lead_from rules (rule_of rules x.rule).v before) step)
        (sym (not_first before)) (g (x ∷ before) step rest (ap (λ xs. x ∷ xs) e))),
  )
