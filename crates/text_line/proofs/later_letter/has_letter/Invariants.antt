-- No letter begins before the place, so the rest has one exactly where the text has.
use Rattle.std.proofs.Common.{◌≡◌, drop}
use Rattle.text_definitions.specs.LineTexts.{has_letter}
use Rattle.text_line.specs.Values.{scheme_of}
use Rattle.text_line.proofs.later_letter.has_letter.Given as goal

abbrev pub invariant-loop-at : goal.invariant-loop-at
invariant-loop-at l = has_letter (scheme_of l.scheme) (drop l.at l.text) ≡ has_letter (scheme_of l.scheme) l.text
