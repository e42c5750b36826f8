-- What is read from the next line on is what is read of all lines.
use Rattle.std.proofs.Common.{◌+◌, ◌≤◌, length}
use Rattle.lexicon_text_definitions.specs.FileLines.{lines_of_bytes}
use Rattle.lexicon_text_definitions.specs.FileReadings.{read_lines}
use Rattle.form_file.proofs.ReadLemmas.{Reads}
use Rattle.form_file.proofs.reading.take_lines.Given as goal

abbrev pub decreases-loop-line : goal.decreases-loop-line
decreases-loop-line l = length l.rest

abbrev pub invariant-loop-line : goal.invariant-loop-line
invariant-loop-line l = record {
  reads : Reads (read_lines l.fn.told 1 (lines_of_bytes l.bytes)) l.told l.number l.rest;
  within : length l.rest ≤ length l.bytes;
  number : l.number + length l.rest ≤ length l.bytes + 1;
}
