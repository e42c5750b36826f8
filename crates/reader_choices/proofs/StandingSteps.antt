-- What steps that stand in a line tell of each of them, and of the lead that they leave; by recursion over the steps.
use Rattle.std.proofs.Common.{◌≡◌, ℕ, zero, suc, ◌+◌, ◌≤◌, List, [], ◌∷◌, ◌++◌, length, get_or, All, refl, arith}
use Rattle.std.specs.List.{AllByRecursion}
use Rattle.std.proofs.lemmas.List.Elements.{All-from_recursion}
use Rattle.lexicon_definitions.specs.Lexicons.{RuleSet, rule_of}
use Rattle.derivation.specs.declared.step.Step.{Step as ProgramStep}
use Rattle.derivation.specs.Steps.{StandFrom, StandIn}
use Rattle.reader_choices.specs.Allowing.{lead_from}

-- the rules of steps that stand in a line are numbers of rules
rules_from : (rules : RuleSet) (letters : List ℕ) (before rest : List ProgramStep) (start : ℕ) (lead : List ℕ)
    → StandFrom rules letters start lead (before ++ rest) → AllByRecursion (λ step. step.rule ≤ length rules.rules) before
rules_from rules letters [] rest start lead h = tt
rules_from rules letters (step ∷ before) rest start lead h =
    (h.0.rule, rules_from rules letters before rest (step.at + step.taken + length (rule_of rules step.rule).w) (rule_of rules step.rule).v h.1)

pub rules_are_numbers : (rules : RuleSet) (letters : List ℕ) (before rest : List ProgramStep) → StandIn rules letters (before ++ rest)
    → All (λ step. step.rule ≤ length rules.rules) before
rules_are_numbers rules letters before rest h =
    All-from_recursion (λ (step : ProgramStep). step.rule ≤ length rules.rules) before (rules_from rules letters before rest 0 [] h)

-- and so is that of the step after them, which takes letters of the line
pub record StandsWithin (rules : RuleSet) (letters : List ℕ) (step : ProgramStep) : Type 0 where
  pub rule : step.rule ≤ length rules.rules
  pub taken : step.at + step.taken ≤ length letters

within_from : (rules : RuleSet) (letters : List ℕ) (before : List ProgramStep) (step : ProgramStep) (rest : List ProgramStep) (start : ℕ) (lead : List ℕ)
    → StandFrom rules letters start lead (before ++ step ∷ rest) → StandsWithin rules letters step
within_from rules letters [] step rest start lead h = record { rule = h.0.rule; taken = h.0.taken }
within_from rules letters (other ∷ before) step rest start lead h =
    within_from rules letters before step rest (other.at + other.taken + length (rule_of rules other.rule).w) (rule_of rules other.rule).v h.1

pub last_within : (rules : RuleSet) (letters : List ℕ) (before : List ProgramStep) (step : ProgramStep)
    → StandIn rules letters (before ++ step ∷ []) → StandsWithin rules letters step
last_within rules letters before step h = within_from rules letters before step [] 0 [] h

-- the lead that steps leave is the v of the last one's rule
pub lead_of_last : (rules : RuleSet) (steps : List ProgramStep) (i : ℕ) (lead : List ℕ) (d : ProgramStep) → suc i ≡ length steps
    → lead_from rules lead steps ≡ (rule_of rules (get_or steps i d).rule).v
lead_of_last rules [] i lead d e = absurd (omega arith)
lead_of_last rules (step ∷ []) zero lead d e = refl
lead_of_last rules (step ∷ []) (suc i) lead d e = absurd (omega arith)
lead_of_last rules (step ∷ next ∷ steps) zero lead d e = absurd (omega arith)
lead_of_last rules (step ∷ next ∷ steps) (suc i) lead d e =
    lead_of_last rules (next ∷ steps) i (rule_of rules step.rule).v d (omega arith)

-- no change leaves no lead
pub no_lead_unchanged : (rules : RuleSet) (number : ℕ) → number ≡ 0 → (rule_of rules number).v ≡ []
no_lead_unchanged rules number e = rw e refl
