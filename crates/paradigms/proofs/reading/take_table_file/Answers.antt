-- At first all records of the file are left.
use Rattle.std.proofs.Common.{◌≡◌, Ok, ℕ, List, [], map, Global, subst}
use Rattle.std.specs.Result.{OnOk, IfErr}
use Rattle.std.specs.String.{string_bytes}
use Rattle.paradigm_file_definitions.specs.Records.{read_records}
use Rattle.paradigm_file_definitions.specs.TableFiles.{take_table, tables_of}
use Rattle.paradigms.specs.Answers.{IsTableFault}
use Rattle.paradigms.proofs.reading.take_table_file.Goals as goal

pub returns-clause-ok : goal.returns-clause-ok
unfolding tables_of
returns-clause-ok c =
    subst (λ (records : List (List (List ℕ))). OnOk c.take_tables.result (read_records (take_table (map (string_bytes {Z = Global}) c.args.phases.now)) 1 [] records ≡ Ok c.take_tables.new.tables)) c.records_in-reader.ensures.all
    c.take_tables.ensures.ok

pub returns-clause-fault : goal.returns-clause-fault
unfolding tables_of
returns-clause-fault c =
    subst (λ (records : List (List (List ℕ))). IfErr c.take_tables.result (IsTableFault (read_records (take_table (map (string_bytes {Z = Global}) c.args.phases.now)) 1 [] records))) c.records_in-reader.ensures.all
    c.take_tables.ensures.fault
