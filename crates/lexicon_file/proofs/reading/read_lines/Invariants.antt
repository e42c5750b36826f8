-- What is read, and what is told, from the next line on is so in all lines.
use Rattle.std.proofs.Common.{◌+◌, ◌≤◌, length}
use Rattle.lexicon_text_definitions.specs.FileLines.{lines_of_bytes}
use Rattle.trie_text_definitions.specs.VersionReadings.{read_lines}
use Rattle.trie_text_definitions.specs.VersionSteps.{head_told}
use Rattle.lexicon_file.specs.Kinds.{version_of}
use Rattle.lexicon_file.specs.Told.{InStep}
use Rattle.lexicon_file.proofs.ReadLemmas.{Reads, GoesOn}
use Rattle.lexicon_file.proofs.reading.read_lines.Given as goal

abbrev pub decreases-loop-line : goal.decreases-loop-line
decreases-loop-line l = length l.rest

abbrev pub invariant-loop-line : goal.invariant-loop-line
invariant-loop-line l = record {
  reads : Reads (version_of l.version) (read_lines (version_of l.version) head_told 2 (lines_of_bytes l.lines)) l.told.value l.number l.rest;
  tells : GoesOn (version_of l.version) (read_lines (version_of l.version) head_told 2 (lines_of_bytes l.lines)) l.told.value l.number l.rest;
  within : length l.rest ≤ length l.lines;
  number : l.number + length l.rest ≤ length l.lines + 2;
  rows : length l.told.value.rows + 2 ≤ l.number;
  step : InStep l.told.value.last l.told.value.front.last;
}
