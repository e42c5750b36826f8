-- By whether a letter begins at the place.
use Rattle.std.proofs.Common.{◌∙◌}
use Rattle.text_line.specs.Values.{scheme_of}
use Rattle.text_line.proofs.Steps.{no_letter_here}
use Rattle.text_line.proofs.later_letter.has_letter.Goals as goal

pub loop-at-preserved : goal.loop-at-preserved
loop-at-preserved c =
    no_letter_here (scheme_of c.args.scheme) c.args.text.now c.loop-at.at _ c.loop-at-test.true c.in_ok-letter_begins.ensures.ok c.if-branch.false ∙ c.loop-at.invariant
