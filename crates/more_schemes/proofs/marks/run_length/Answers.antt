-- One byte more, where no mark begins at it.
use Rattle.std.proofs.Common.{◌∙◌, arith}
use Rattle.more_schemes.specs.Values.{marks_of}
use Rattle.more_schemes.proofs.ConversionSteps.{none_found, one_more}
use Rattle.more_schemes.proofs.marks.run_length.Goals as goal

pub loop-length-preserved : goal.loop-length-preserved
loop-length-preserved c =
    let here = none_found c.mark_at.result (c.if-is_none.ensures) ∙ c.mark_at.ensures.value in
    let more = one_more (marks_of c.args.marks) c.args.text.now c.loop-length.length c.loop-length-test.true here in
    record { within = omega arith; whole = omega (arith, c.loop-length.invariant.whole, more) }
