-- What is kept beside the rules of a file.
use Rattle.std.specs.Prelude.{◌≡◌, List, map}
use Rattle.lexicon_definitions.specs.Rules.{Rule}
use Rattle.lexicon_definitions.specs.Leads.{Lead, leads_of}
use Rattle.sandhi_rules.specs.declared.triple.Triple.{Triple}
use Rattle.sandhi_rules.specs.Triples.{triple_of}
use Rattle.rule_file.specs.declared.rules_so_far.RulesSoFar.{RulesSoFar}

-- these are the triples of the rules, in their order, and their leads, rising
pub record AreKept (rules : List Rule) (triples : List Triple) (leads : List Lead) : Type 0 where
  pub triples_are : triples ≡ map triple_of rules
  pub leads_are : leads ≡ leads_of rules

-- so they are kept of the rules so far
abbrev pub IsKept : RulesSoFar → Type 0
IsKept so_far = AreKept so_far.rules.items so_far.triples.keys so_far.leads.items
