-- What was read, followed by the parts of the rest, gives the line or the first fault of the whole text.
use Rattle.std.proofs.Common.{◌≡◌, ◌-◌, ◌≤◌, length, drop, true, false}
use Rattle.text_definitions.specs.LineTexts.{has_letter, parts_from}
use Rattle.text_line.specs.Values.{scheme_of}
use Rattle.text_line.specs.Pieces.{line_after, empty_line}
use Rattle.text_line.proofs.read.read_parts.Given as goal

abbrev pub invariant-loop-at : goal.invariant-loop-at
invariant-loop-at l = record {
  within : l.at ≤ length l.text;
  later : l.after_letters ≡ true → has_letter (scheme_of l.scheme) (drop l.at l.text) ≡ false;
  whole : line_after (scheme_of l.scheme) l.spelled (parts_from (scheme_of l.scheme) l.at 0 (drop l.at l.text)) ≡ line_after (scheme_of l.scheme) empty_line (parts_from (scheme_of l.scheme) 0 0 l.text);
}

abbrev pub decreases-loop-at : goal.decreases-loop-at
decreases-loop-at l = length l.text - l.at
