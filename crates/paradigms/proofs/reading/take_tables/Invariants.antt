-- What is read of the records that are left is what is read of all.
use Rattle.std.proofs.Common.{◌≡◌, ◌+◌, ◌<◌, ◌≤◌, [], length, map}
use Rattle.std.specs.String.{string_bytes}
use Rattle.paradigm_file_definitions.specs.declared.limits.TheConstants.{MOST_TABLE_RECORDS}
use Rattle.paradigm_file_definitions.specs.Records.{read_records}
use Rattle.paradigm_file_definitions.specs.TableFiles.{take_table}
use Rattle.paradigms.specs.RecordsLeft.{IsReading, records_left}
use Rattle.paradigms.proofs.reading.take_tables.Given as goal

abbrev pub invariant-loop-tables : goal.invariant-loop-tables
invariant-loop-tables l = record {
  reading : IsReading l.reader;
  reads : read_records (take_table (map string_bytes l.fn.phases)) l.number l.tables (records_left l.reader)
      ≡ read_records (take_table (map string_bytes l.fn.phases)) 1 [] (records_left l.fn.reader);
  few : length l.tables < l.number;
  number : l.number ≤ MOST_TABLE_RECORDS + 1;
}

abbrev pub decreases-loop-tables : goal.decreases-loop-tables
decreases-loop-tables l = length (records_left l.reader)
