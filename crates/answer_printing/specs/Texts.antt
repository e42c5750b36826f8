-- The texts from which answers are printed: of each rule its words in SLP1, of each phase its name, and of a line its letters (own).
use Rattle.std.specs.Prelude.{◌≡◌, ℕ, List, ◌++◌, map, codes}
use Rattle.text_definitions.specs.Slp1.{slp1_of_word}
use Rattle.lexicon_definitions.specs.Rules.{Rule, printed_rule}
use Rattle.lexicon_definitions.specs.Lexicons.{RuleSet}

-- the text of a phase, which stands after its forms: `[NAME]`
abbrev pub phase_text : List ℕ → List ℕ
phase_text name = codes "[" ++ name ++ codes "]"

-- what stands after a form of the phase that is joined unchanged to the next: `[NAME] + `
abbrev pub joined_phase_text : List ℕ → List ℕ
joined_phase_text name = phase_text name ++ codes " + "

-- what stands between two forms that a rule joins: ` (u|v>w) `
abbrev pub joint_text : Rule → List ℕ
joint_text rule = codes " (" ++ printed_rule rule ++ codes ") "

-- the texts of a rule: its u, its v, and what stands between two forms that it joins
pub record RuleTextValue : Type 0 where
  pub u : List ℕ
  pub v : List ℕ
  pub joint : List ℕ

-- what they are
abbrev pub texts_of : Rule → RuleTextValue
texts_of rule = record { u = slp1_of_word rule.u; v = slp1_of_word rule.v; joint = joint_text rule }

-- these are the texts of the rules, and of the phases with what joins a form unchanged to the next, each in their order
pub record AreTextsOf (rules : RuleSet) (texts : List RuleTextValue) (phases : List (List ℕ)) : Type 0 where
  pub of_rules : texts ≡ map texts_of rules.rules
  pub of_phases : phases ≡ map joined_phase_text rules.names

-- what is printed with: a rule set, and the letters of a line
pub record PrintedWith : Type 0 where
  pub rules : RuleSet
  pub letters : List ℕ
