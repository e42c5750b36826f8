-- Both compute.
use Rattle.demo_definitions.proofs.SourcesRead.{rule_set_read, tables_read}
use Rattle.demo_definitions.proofs.laws.the_sources_are_read.Goals as goal

pub returns-clause-rules : goal.returns-clause-rules
returns-clause-rules c = rule_set_read

pub returns-clause-tables : goal.returns-clause-tables
returns-clause-tables c = tables_read
