-- So far the leads are those of the rules that were gone over.
use Rattle.std.proofs.Common.{◌≡◌, take}
use Rattle.lexicon_definitions.specs.Leads.{leads_of}
use Rattle.sandhi_rules.proofs.rule_set.leads_of_rules.Given as goal

abbrev pub invariant-loop-rule : goal.invariant-loop-rule
invariant-loop-rule l = l.leads.items ≡ leads_of (take l.rule-index l.rules)
