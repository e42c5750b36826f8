-- What is read of the records that are left is what is read of all; the forms of the stems so far are counted.
use Rattle.std.proofs.Common.{◌≡◌, ◌+◌, ◌≤◌, [], length}
use Rattle.paradigm_file_definitions.specs.declared.limits.TheConstants.{MOST_STEM_RECORDS, MOST_INFLECTIONS}
use Rattle.paradigm_file_definitions.specs.Records.{read_records}
use Rattle.paradigm_file_definitions.specs.StemFiles.{count_inflections, take_stem}
use Rattle.paradigms.specs.RecordsLeft.{IsReading, records_left}
use Rattle.paradigms.proofs.reading.take_stems.Given as goal

abbrev pub invariant-loop-stems : goal.invariant-loop-stems
invariant-loop-stems l = record {
  reading : IsReading l.reader;
  reads : read_records (take_stem l.fn.tables) l.number l.stems (records_left l.reader) ≡ read_records (take_stem l.fn.tables) 1 [] (records_left l.fn.reader);
  number : l.number ≤ MOST_STEM_RECORDS + 1;
  forms : l.forms ≡ count_inflections l.fn.tables l.stems;
  few : l.forms ≤ MOST_INFLECTIONS;
}

abbrev pub decreases-loop-stems : goal.decreases-loop-stems
decreases-loop-stems l = length (records_left l.reader)
