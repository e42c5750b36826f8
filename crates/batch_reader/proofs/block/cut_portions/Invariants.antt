-- The lines before those that are left are asked about, portion by portion. Each turn leaves fewer lines.
use Rattle.std.proofs.Common.{length}
use Rattle.batch_reader.proofs.RepliedLines.{HasCutPortions}
use Rattle.batch_reader.proofs.block.cut_portions.Given as goal

abbrev pub invariant-loop-left : goal.invariant-loop-left
invariant-loop-left l = HasCutPortions l.number l.lines l.asked.items l.next l.left

abbrev pub decreases-loop-left : goal.decreases-loop-left
decreases-loop-left l = length l.left
