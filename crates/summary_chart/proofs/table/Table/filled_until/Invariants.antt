-- All sets from the index on are empty.
use Rattle.summary_chart.proofs.FilledSets.{AreEmptyFrom}
use Rattle.summary_chart.proofs.table.Table.filled_until.Given as goal

abbrev pub invariant-loop-end : goal.invariant-loop-end
invariant-loop-end l = AreEmptyFrom l.self.sets.items l.end l.fn.until

abbrev pub decreases-loop-end : goal.decreases-loop-end
decreases-loop-end l = l.end
