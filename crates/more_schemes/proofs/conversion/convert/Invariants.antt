-- What was written, followed by the lines that are left, is what the whole text gives.
use Rattle.std.proofs.Common.{◌≡◌, ◌+◌, ◌≤◌, length}
use Rattle.lexicon_text_definitions.specs.FileLines.{lines_of_bytes}
use Rattle.conversion_definitions.specs.Conversions.{with_bytes, converted_lines, converted_text}
use Rattle.more_schemes.specs.Values.{any_scheme_of}
use Rattle.more_schemes.proofs.conversion.convert.Given as goal

abbrev pub decreases-loop-line : goal.decreases-loop-line
decreases-loop-line l = length l.rest

abbrev pub invariant-loop-line : goal.invariant-loop-line
invariant-loop-line l = record {
  whole : with_bytes l.converted.items (converted_lines (any_scheme_of l.input) (any_scheme_of l.output) l.number (lines_of_bytes l.rest)) ≡ converted_text (any_scheme_of l.input) (any_scheme_of l.output) l.text;
  counted : 1 ≤ l.number;
  within : l.number + length l.rest ≤ length l.text + 1;
}
