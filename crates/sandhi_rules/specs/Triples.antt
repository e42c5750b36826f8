-- What tells the rules of a rule set apart.
use Rattle.lexicon_definitions.specs.Rules.{Rule}
use Rattle.sandhi_rules.specs.declared.triple.Triple.{Triple}

-- the rule's u, v and w
abbrev pub triple_of : Rule → Triple
triple_of rule = record { u = rule.u; v = rule.v; w = rule.w }
