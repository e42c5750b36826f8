-- The limits of a rule set and of a lexicon (own).
use Rattle.std.specs.Prelude.{ℕ, ◌<◌, ◌≤◌, List, length, All, sum_by}
use Rattle.lexicon_definitions.specs.declared.limits.TheConstants.{MOST_PHASES, MOST_RULES, MOST_RULE_LETTERS, MOST_LEADS, MOST_FORM_LETTERS, MOST_FORM_LINES}
use Rattle.lexicon_definitions.specs.Rules.{Rule}
use Rattle.lexicon_definitions.specs.GrammarFaults.{IsGrammarTextWithinLimits}
use Rattle.lexicon_definitions.specs.Lexicons.{Lexicon, RuleSet, Form}
use Rattle.lexicon_definitions.specs.Leads.{leads_of}

-- no part of a rule is too long
pub record IsShortRule (rule : Rule) : Type 0 where
  pub u : length rule.u ≤ MOST_RULE_LETTERS
  pub v : length rule.v ≤ MOST_RULE_LETTERS
  pub w : length rule.w ≤ MOST_RULE_LETTERS

-- a form is not too long, and neither is any of its stems
pub record IsShortForm (form : Form) : Type 0 where
  pub letters : length form.letters ≤ MOST_FORM_LETTERS
  pub stems : All (λ analysis. length analysis.stem ≤ MOST_FORM_LETTERS) form.analyses

-- how many pairs of a form and an analysis the phases have
abbrev pub count_lines : List (List Form) → ℕ
count_lines phases = sum_by (λ forms. sum_by (λ form. length form.analyses) forms) phases

-- some phases, but not too many, a grammar text within its limits, and not too many short rules with not too many leads
pub record IsRuleSetWithinLimits (set : RuleSet) : Type 0 where
  pub some_phase : 0 < length set.names
  pub phases : length set.names ≤ MOST_PHASES
  pub grammar : IsGrammarTextWithinLimits set.names set.grammar
  pub rules : length set.rules ≤ MOST_RULES
  pub short_rules : All IsShortRule set.rules
  pub leads : length (leads_of set.rules) ≤ MOST_LEADS

-- a rule set within the limits, and not too many lines of short forms
pub record IsWithinLimits (lexicon : Lexicon) : Type 0 where
  pub rule_set : IsRuleSetWithinLimits lexicon.rules
  pub short_forms : All (λ forms. All IsShortForm forms) lexicon.phases
  pub lines : count_lines lexicon.phases ≤ MOST_FORM_LINES
