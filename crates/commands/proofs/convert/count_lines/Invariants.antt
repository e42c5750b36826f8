-- The lines that were counted and those of the rest are those of the bytes.
use Rattle.std.proofs.Common.{◌≡◌, ◌+◌, ◌≤◌, length}
use Rattle.lexicon_text_definitions.specs.FileLines.{lines_of_bytes}
use Rattle.commands.proofs.convert.count_lines.Given as goal

abbrev pub decreases-loop-line : goal.decreases-loop-line
decreases-loop-line l = length l.rest

abbrev pub invariant-loop-line : goal.invariant-loop-line
invariant-loop-line l = record {
  counted : l.count + length (lines_of_bytes l.rest) ≡ length (lines_of_bytes l.bytes);
  few : l.count + length l.rest ≤ length l.bytes;
}
