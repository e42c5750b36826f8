-- At first nothing is read, and all records are left; a record more is taken, or refused; at the end none is left.
use Rattle.std.proofs.Common.{List, length, map, Global, ap, arith}
use Rattle.std.specs.String.{string_bytes}
use Rattle.csv.specs.Records.{fields_of}
use Rattle.morphology_definitions.specs.Inflection.{Class}
use Rattle.paradigm_file_definitions.specs.Records.{read_records}
use Rattle.paradigm_file_definitions.specs.TableFiles.{take_table}
use Rattle.paradigms.specs.RecordsLeft.{records_left}
use Rattle.paradigms.proofs.ReadLoops.{next_of, none_of, reads_on, read_all, table_fault}
use Rattle.paradigms.proofs.reading.take_tables.Goals as goal

pub loop-tables-init : goal.loop-tables-init
loop-tables-init c =
    let none = ap length c.requires.empty in
    record {
      reading = c.requires.reading;
      reads = ap (λ (tables : List Class). read_records (take_table (map (string_bytes {Z = Global}) c.args.phases.now)) 1 tables (records_left c.args.reader.now)) c.requires.empty;
      few = omega (arith, none);
      number = omega arith;
    }

pub loop-tables-preserved : goal.loop-tables-preserved
loop-tables-preserved c =
    let at = c.loop-tables in
    let fields = fields_of c.next_record.new.csv_record in
    let left = records_left c.next_record.new.reader in
    let next = next_of (records_left at.reader) left fields c.in_ok-next_record.field-0 c.if-branch.true c.in_ok-next_record.ensures.next in
    let was = at.invariant.few in
    let grows = c.in_default.ensures.grows in
    let within = c.in_default.ensures.within in
    record {
      reading = c.in_ok-next_record.ensures.reading c.if-branch.true;
      reads = reads_on (take_table (map (string_bytes {Z = Global}) c.args.phases.now)) at.number at.tables _ (records_left at.reader) at.invariant.reads fields left c.take.new.self next
          c.in_default.ensures.answer;
      few = omega (arith, was, grows);
      number = omega (arith, within);
    }

pub returns-in-Err-clause-fault : goal.returns-in-Err-clause-fault
returns-in-Err-clause-fault c =
    let at = c.loop-tables in
    let fields = fields_of c.next_record.new.csv_record in
    let left = records_left c.next_record.new.reader in
    let next = next_of (records_left at.reader) left fields c.in_ok-next_record.field-0 c.if-branch.true c.in_ok-next_record.ensures.next in
    table_fault (Unit {0}) (take_table (map (string_bytes {Z = Global}) c.args.phases.now)) at.number at.tables c.take.new.self _ (records_left at.reader) left fields c.in-Err.error
    c.table_error.result at.invariant.reads next c.in-Err.ensures.answer c.table_error.ensures

pub returns-clause-ok : goal.returns-clause-ok
returns-clause-ok c =
    let at = c.loop-tables in
    let none = none_of (records_left at.reader) (records_left c.next_record.new.reader) (fields_of c.next_record.new.csv_record) c.in_ok-next_record.field-0 c.if-branch.false
    c.in_ok-next_record.ensures.next in
    read_all (take_table (map (string_bytes {Z = Global}) c.args.phases.now)) at.number at.tables _ (records_left at.reader) at.invariant.reads none
