-- The block asks for the lines so far. Each turn leaves fewer bytes.
use Rattle.std.proofs.Common.{length}
use Rattle.text_line.specs.Values.{scheme_of}
use Rattle.batch_reader.proofs.CutLines.{HasCutSoFar}
use Rattle.batch_reader.proofs.block.cut_block.Given as goal

abbrev pub invariant-loop-line : goal.invariant-loop-line
invariant-loop-line l = HasCutSoFar (scheme_of l.scheme) l.bytes l.block.items l.rest

abbrev pub decreases-loop-line : goal.decreases-loop-line
decreases-loop-line l = length l.rest
