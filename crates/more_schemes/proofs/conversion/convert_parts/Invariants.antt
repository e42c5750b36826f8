-- What was written, followed by the parts of the rest, is what the whole text gives.
use Rattle.std.proofs.Common.{◌≡◌, ◌-◌, ◌≤◌, length, drop}
use Rattle.text_definitions.specs.Spellings.{with_front}
use Rattle.conversion_definitions.specs.Conversions.{parts_from, converted_parts}
use Rattle.more_schemes.specs.Values.{any_scheme_of, marks_of}
use Rattle.more_schemes.proofs.ConvertedLines.{converted_bytes}
use Rattle.more_schemes.proofs.conversion.convert_parts.Given as goal

abbrev pub invariant-loop-at : goal.invariant-loop-at
invariant-loop-at l = record {
  within : l.at ≤ length l.text;
  whole : with_front l.converted.items (converted_parts (any_scheme_of l.input) (any_scheme_of l.output) (parts_from (marks_of l.marks) l.at 0 (drop l.at l.text))) ≡ with_front l.fn.converted.items (converted_bytes (any_scheme_of l.input) (any_scheme_of l.output) l.text);
}

abbrev pub decreases-loop-at : goal.decreases-loop-at
decreases-loop-at l = length l.text - l.at
