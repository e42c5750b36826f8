-- All sets up to the index are empty.
use Rattle.std.proofs.Common.{◌-◌}
use Rattle.summary_chart.proofs.FilledSets.{AreEmptyFrom}
use Rattle.summary_chart.proofs.table.Table.next_filled.Given as goal

abbrev pub invariant-loop-index : goal.invariant-loop-index
invariant-loop-index l = AreEmptyFrom l.self.sets.items l.fn.from l.index

abbrev pub decreases-loop-index : goal.decreases-loop-index
decreases-loop-index l = l.count - l.index
