-- The numbers of an answer's steps are small: a step stands within the line, its lead is the v of the rule before it, and its rule is
-- one of the lexicon's.
use Rattle.std.proofs.Common.{◌≡◌, ℕ, zero, suc, ◌<◌, ◌≤◌, ◌⊎◌, inl, inr, List, [], ◌∷◌, length, arith}
use Rattle.std.specs.Prelude.{⊤}
use Rattle.std.specs.List.{AllByRecursion}
use Rattle.text_definitions.specs.declared.limits.TheConstants.{MOST_LINE_LETTERS}
use Rattle.lexicon_definitions.specs.declared.limits.TheConstants.{MOST_RULES, MOST_RULE_LETTERS}
use Rattle.lexicon_definitions.specs.Rules.{no_change}
use Rattle.lexicon_definitions.specs.Limits.{IsWithinLimits}
use Rattle.lexicon_definitions.specs.Lexicons.{Lexicon, RuleSet, rule_of, IsLexicon}
use Rattle.segmentation_definitions.specs.Derivations.{Step, IsRuleNumber, Derives}
use Rattle.segmentation_definitions.specs.Items.{Placed, placed}
use Rattle.segmentation_definitions.proofs.Coverings.{AreInPlace, LastStep, EarlierStep, StandsIn, RuleAfter, Unchanged, Changed, in_place}

-- the numbers of a step in its place, and its phase
pub record IsBounded (lexicon : Lexicon) (p : Placed) : Type 0 where
  pub at : p.at ≤ MOST_LINE_LETTERS
  pub taken : p.taken ≤ MOST_LINE_LETTERS
  pub lead : p.lead ≤ MOST_RULE_LETTERS
  pub rule : p.step.rule ≤ MOST_RULES
  pub phase : p.step.phase < length lexicon.phases

-- the v of no rule is empty, and that of a rule is short
short_lead : (lexicon : Lexicon) (number : ℕ) → IsWithinLimits lexicon → (number ≡ 0) ⊎ IsRuleNumber lexicon.rules number
    → length (rule_of lexicon.rules number).v ≤ MOST_RULE_LETTERS
short_lead lexicon zero limits h = omega arith
short_lead lexicon (suc number) limits (inl e) = absurd (omega arith)
short_lead lexicon (suc number) limits (inr h) = (limits.rule_set.short_rules number no_change h.1).v

few_rules : (lexicon : Lexicon) (step : Step) → IsWithinLimits lexicon → RuleAfter lexicon.rules step → step.rule ≤ MOST_RULES
few_rules lexicon step limits (Unchanged none empty) = omega arith
few_rules lexicon step limits (Changed number u w) = omega (arith, number.1, limits.rule_set.rules)

one_bounded : (lexicon : Lexicon) (letters : ℕ) (p : Placed) → IsWithinLimits lexicon → letters ≤ MOST_LINE_LETTERS
    → p.lead ≤ MOST_RULE_LETTERS → StandsIn lexicon letters p → IsBounded lexicon p
one_bounded lexicon letters p limits few lead stands = record {
  at = omega (arith, stands.within);
  taken = omega (arith, stands.within);
  lead = lead;
  rule = few_rules lexicon p.step limits stands.following;
  phase = stands.phase;
}

-- the lead of the first of them is short
abbrev HasShortLead : List Placed → Type 0
HasShortLead [] = ⊤
HasShortLead (p ∷ ps) = p.lead ≤ MOST_RULE_LETTERS

all_bounded : (lexicon : Lexicon) (letters : ℕ) (ps : List Placed) → IsWithinLimits lexicon → letters ≤ MOST_LINE_LETTERS
    → HasShortLead ps → AreInPlace lexicon letters ps → AllByRecursion (IsBounded lexicon) ps
all_bounded lexicon letters ps limits few lead (LastStep {p = p} stands last) = (one_bounded lexicon letters p limits few lead stands, tt)
all_bounded lexicon letters ps limits few lead (EarlierStep {p = p} {q = q} {ps = qs} stands before rest) =
    let short = short_lead lexicon p.step.rule limits (elim before.rule [ inl none ↦ inl none | inr number ↦ inr number.0 ]) in (
      one_bounded lexicon letters p limits few lead stands,
      all_bounded lexicon letters (q ∷ qs) limits few (omega (arith, before.lead, short)) rest,
    )

first_lead : (rules : RuleSet) (steps : List Step) → HasShortLead (placed rules steps)
first_lead rules [] = tt
first_lead rules (step ∷ steps) = omega arith

-- each step of a derivation of a word that is no longer than a line may be
pub steps_bounded : (lexicon : Lexicon) (word : List ℕ) (steps : List Step) → IsLexicon lexicon → IsWithinLimits lexicon
    → length word ≤ MOST_LINE_LETTERS → Derives lexicon steps word → AllByRecursion (IsBounded lexicon) (placed lexicon.rules steps)
steps_bounded lexicon word steps is limits few derives =
    all_bounded lexicon (length word) (placed lexicon.rules steps) limits few (first_lead lexicon.rules steps) (in_place lexicon word steps is derives)
