-- The table file is read in one way, which is as the classes.
use Rattle.std.proofs.Common.{string_bytes}
use Rattle.demo_definitions.specs.SourceTexts.{demo_tables}
use Rattle.demo_counts.proofs.InputsRead.{phases_are_few, tables_are}
use Rattle.demo_counts.proofs.ErrorsRead.{no_table_error}
use Rattle.demo_counts.proofs.sources.read_table_file.Goals as goal

pub read_tables-requires-clause-phases : goal.read_tables-requires-clause-phases
read_tables-requires-clause-phases c = phases_are_few string_bytes c.args.phases.now c.requires

pub unreachable-requires : goal.unreachable-requires
unfolding demo_tables
unreachable-requires c =
    no_table_error _ c.requires c.in-Err-Fault.field-0 c.in-Err-Fault.field-0-0 c.in-Err-Fault.field-0-is c.in-Err-Fault.ensures.fault

pub returns-in-Ok : goal.returns-in-Ok
unfolding demo_tables
returns-in-Ok c = record { ok = tables_are _ c.requires c.in-Ok.tables c.in-Ok.ensures.ok }
