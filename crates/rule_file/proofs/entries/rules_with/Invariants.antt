use Rattle.std.proofs.Common.{◌≡◌, take, map}
use Rattle.rule_file_definitions.specs.RuleEntries.{rule_with}
use Rattle.rule_file.proofs.entries.rules_with.Given as goal

abbrev pub invariant-loop-filling : goal.invariant-loop-filling
invariant-loop-filling l = l.rules.items ≡ map (rule_with l.phases l.pattern) (take l.filling-index l.fillings)
