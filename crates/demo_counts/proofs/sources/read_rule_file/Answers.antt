-- The rule file is read in one way, which is as the rule set.
use Rattle.demo_definitions.specs.SourceTexts.{demo_rules}
use Rattle.demo_counts.proofs.InputsRead.{rules_are}
use Rattle.demo_counts.proofs.ErrorsRead.{no_rule_error}
use Rattle.demo_counts.proofs.sources.read_rule_file.Goals as goal

pub unreachable-requires : goal.unreachable-requires
unfolding demo_rules
unreachable-requires c = no_rule_error c.in-Err-Fault.field-0 c.in-Err-Fault.field-0-0 c.in-Err-Fault.field-0-is c.in-Err-Fault.ensures.fault

pub returns-in-Ok-clause-ok : goal.returns-in-Ok-clause-ok
unfolding demo_rules
returns-in-Ok-clause-ok c = rules_are c.in-Ok.file.rules c.in-Ok.ensures.ok
