-- The letters that a rule supplies are the v of some rule, which has few letters.
use Rattle.std.proofs.Common.{◌≤◌, [], length, ap, arith}
use Rattle.std.proofs.lemmas.List.Elements.{All-contains, Contains-get_or}
use Rattle.lexicon_definitions.specs.declared.limits.TheConstants.{MOST_RULE_LETTERS}
use Rattle.lexicon_definitions.specs.Leads.{leads_of}
use Rattle.lexicon_definitions.specs.Lexicons.{RuleSet}
use Rattle.lexicon_definitions.specs.Limits.{IsShortRule, IsRuleSetWithinLimits}
use Rattle.lexicon_definitions.proofs.LeadLaws.{Contains-leads_of}
use Rattle.derivation.specs.Guides.{IsEntranceOver, entrance_of, lead_at}
use Rattle.derivation.specs.declared.entrance.Entrance.{Entrance}
use Rattle.derivation.specs.declared.entrance.Entrance.TheVariants as program
use Rattle.answer_paths.specs.Fronts.{supplied}

pub short_supplied : (rules : RuleSet) (entrance : Entrance) → IsRuleSetWithinLimits rules → IsEntranceOver (leads_of rules.rules) entrance
    → length (supplied (entrance_of (leads_of rules.rules) entrance)) ≤ MOST_RULE_LETTERS
short_supplied rules program.Start limits over = omega arith
short_supplied rules (program.Plain letter) limits over = omega arith
short_supplied rules (program.Lead place) limits over =
    let lead = lead_at (leads_of rules.rules) place in
    let (rule, among, inner, v, after) = (Contains-leads_of rules.rules lead).0 (Contains-get_or (leads_of rules.rules) place (record { v = []; after = 0 }) over) in
    let short = (All-contains IsShortRule rules.rules rule limits.short_rules among).v in
    let same = ap length v in
    omega (arith, short, same)
