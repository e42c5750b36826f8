-- At first nothing is read, and all records are left; a record more is taken, or refused; at the end none is left.
use Rattle.std.proofs.Common.{ℕ, List, sym, ap, arith}
use Rattle.csv.specs.Records.{fields_of}
use Rattle.morphology_definitions.specs.Inflection.{Stem}
use Rattle.paradigm_file_definitions.specs.Records.{read_records}
use Rattle.paradigm_file_definitions.specs.StemFiles.{count_inflections, take_stem}
use Rattle.paradigms.specs.RecordsLeft.{records_left}
use Rattle.paradigms.proofs.ReadLoops.{next_of, none_of, reads_on, read_all, stem_fault}
use Rattle.paradigms.proofs.reading.take_stems.Goals as goal

pub loop-stems-init : goal.loop-stems-init
loop-stems-init c = record {
  reading = c.requires.reading;
  reads = ap (λ (stems : List Stem). read_records (take_stem c.args.tables.now) 1 stems (records_left c.args.reader.now)) c.requires.empty;
  number = omega arith;
  forms = sym (ap (count_inflections c.args.tables.now) c.requires.empty);
  few = omega arith;
}

pub loop-stems-preserved : goal.loop-stems-preserved
loop-stems-preserved c =
    let at = c.loop-stems in
    let fields = fields_of c.next_record.new.csv_record in
    let left = records_left c.next_record.new.reader in
    let next = next_of (records_left at.reader) left fields c.in_ok-next_record.field-0 c.if-branch.true c.in_ok-next_record.ensures.next in
    let within = c.in-Ok.ensures.within in
    record {
      reading = c.in_ok-next_record.ensures.reading c.if-branch.true;
      reads = reads_on (take_stem c.args.tables.now) at.number at.stems _ (records_left at.reader) at.invariant.reads fields left c.take.new.self next c.in-Ok.ensures.answer;
      number = omega (arith, within);
      forms = c.in-Ok.ensures.forms;
      few = c.in-Ok.ensures.few;
    }

pub returns-in-Err-clause-fault : goal.returns-in-Err-clause-fault
returns-in-Err-clause-fault c =
    let at = c.loop-stems in
    let fields = fields_of c.next_record.new.csv_record in
    let left = records_left c.next_record.new.reader in
    let next = next_of (records_left at.reader) left fields c.in_ok-next_record.field-0 c.if-branch.true c.in_ok-next_record.ensures.next in
    stem_fault ℕ (take_stem c.args.tables.now) at.number at.stems c.take.new.self _ (records_left at.reader) left fields c.in-Err.error c.stem_error.result at.invariant.reads next
    c.in-Err.ensures.answer c.stem_error.ensures

pub returns-clause-ok : goal.returns-clause-ok
returns-clause-ok c =
    let at = c.loop-stems in
    let none = none_of (records_left at.reader) (records_left c.next_record.new.reader) (fields_of c.next_record.new.csv_record) c.in_ok-next_record.field-0 c.if-branch.false
    c.in_ok-next_record.ensures.next in
    read_all (take_stem c.args.tables.now) at.number at.stems _ (records_left at.reader) at.invariant.reads none
