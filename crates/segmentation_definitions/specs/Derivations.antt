-- How a list of forms and rules derives a word (after Huet 2005, rewriting at junctures; limits by phases are own).
use Rattle.std.specs.Prelude.{◌≡◌, ℕ, ◌<◌, ◌≤◌, ◌⊎◌, List, [], ◌∷◌, ◌++◌, length, map}
use Rattle.std.specs.List.{AllByRecursion}
use Rattle.lexicon_definitions.specs.Rules.{Rule, IsInner, IsFinal, HasPhase}
use Rattle.lexicon_definitions.specs.Lexicons.{Lexicon, RuleSet, rule_of, IsPlain, IsForm}

-- a phase, a form of it, and the number of the rule after the form; 0 is no change
pub record Step : Type 0 where
  pub phase : ℕ
  pub form : List ℕ
  pub rule : ℕ

-- the rule after the step; u, v and w are empty where there is no change
abbrev pub rule_after : RuleSet → Step → Rule
rule_after rules step = rule_of rules step.rule

-- the number is that of a rule
abbrev pub IsRuleNumber : RuleSet → ℕ → Type 0
IsRuleNumber rules number = (0 < number) × (number ≤ length rules.rules)

-- the last letter of the left form and the first letter of the right one are a plain pair
abbrev pub IsPlainSeam : RuleSet → List ℕ → List ℕ → Type 0
IsPlainSeam rules left right =
    (front : List ℕ) × (last : ℕ) × (first : ℕ) × (rest : List ℕ) × (left ≡ front ++ last ∷ []) × (right ≡ first ∷ rest)
    × IsPlain rules last first

-- after the step stands an inner rule that may follow the step's phase
abbrev pub HasInnerRule : RuleSet → Step → Type 0
HasInnerRule rules step =
    IsRuleNumber rules step.rule × IsInner (rule_after rules step) × HasPhase (rule_after rules step).before step.phase

-- after the step stands a final rule that may follow the step's phase
abbrev pub HasFinalRule : RuleSet → Step → Type 0
HasFinalRule rules step =
    IsRuleNumber rules step.rule × IsFinal (rule_after rules step) × HasPhase (rule_after rules step).before step.phase

-- the step meets the next one unchanged over a plain pair, or by an inner rule that may precede the next one's phase
abbrev pub Meets : RuleSet → Step → Step → Type 0
Meets rules step next =
    ((step.rule ≡ 0) × IsPlainSeam rules step.form next.form)
    ⊎ (HasInnerRule rules step × HasPhase (rule_after rules step).after next.phase)

-- each step's form is a form of its phase
abbrev pub AreForms : Lexicon → List Step → Type 0
AreForms lexicon steps = AllByRecursion (λ step. IsForm lexicon step.phase step.form) steps

-- each step meets the next
abbrev pub AreJoined : RuleSet → List Step → Type 0
AreJoined rules [] = Unit {0}
AreJoined rules (step ∷ []) = Unit {0}
AreJoined rules (step ∷ next ∷ steps) = Meets rules step next × AreJoined rules (next ∷ steps)

-- there is a last step, and after it there is no change or a final rule that may follow its phase
abbrev pub EndsWell : RuleSet → List Step → Type 0
EndsWell rules [] = ⊥
EndsWell rules (step ∷ []) = (step.rule ≡ 0) ⊎ HasFinalRule rules step
EndsWell rules (step ∷ next ∷ steps) = EndsWell rules (next ∷ steps)

-- from a lead that the rule before supplied, the steps cover the word up to a rest: each form is the lead before it, then
-- the letters that it takes from the word, then the u after it; these letters are followed by the w after it
abbrev pub Covers : RuleSet → List ℕ → List Step → List ℕ → List ℕ → Type 0
Covers rules lead [] word rest = word ≡ rest
Covers rules lead (step ∷ steps) word rest =
    (taken : List ℕ) × (following : List ℕ)
    × (step.form ≡ lead ++ taken ++ (rule_after rules step).u)
    × (word ≡ taken ++ (rule_after rules step).w ++ following)
    × Covers rules (rule_after rules step).v steps following rest

-- the steps derive the word
pub record Derives (lexicon : Lexicon) (steps : List Step) (word : List ℕ) : Type 0 where
  pub forms : AreForms lexicon steps
  pub joined : AreJoined lexicon.rules steps
  pub ends : EndsWell lexicon.rules steps
  pub covers : Covers lexicon.rules [] steps word []

-- the phases of the steps
abbrev pub phases_of : List Step → List ℕ
phases_of steps = map (λ step. step.phase) steps
