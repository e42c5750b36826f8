-- Each turn counts the first of the lines that are left; at the end there are none.
use Rattle.std.proofs.Common.{length, ap, arith}
use Rattle.lexicon_text_definitions.specs.FileLines.{lines_of_bytes}
use Rattle.commands.proofs.convert.count_lines.Goals as goal

pub loop-line-preserved : goal.loop-line-preserved
loop-line-preserved c = record {
  counted = omega (arith, c.loop-line.invariant.counted, ap length c.in-Some.ensures.line);
  few = omega (arith, c.loop-line.invariant.few, c.in-Some.ensures.shorter);
}

pub returns : goal.returns
returns c = omega (arith, c.loop-line.invariant.counted, ap (λ b. length (lines_of_bytes b)) c.in_default.ensures.line)
