-- The walks on from the fronts so far are kept, and each front took a step.
use Rattle.std.proofs.Common.{◌+◌, ◌≤◌, All, length}
use Rattle.summary_chart.specs.declared.table.Table.{Table}
use Rattle.summary_chart.specs.Levels.{IsSpreadOn}
use Rattle.summary_chart.specs.Walked.{AreWalksSpread}
use Rattle.summary_chart.proofs.spreading.keep_spread.Given as goal

abbrev pub invariant-loop-one : goal.invariant-loop-one
invariant-loop-one g l = record {
  low : l.one-index ≤ length l.walked;
  walks : (table : Table) → AreWalksSpread l.here.site.lexicon.now l.here.site.line.now table l.fn.walks → All (IsSpreadOn l.here table) l.walked
      → AreWalksSpread l.here.site.lexicon.now l.here.site.line.now table l.walks;
  spent : l.steps ≤ l.fn.steps + l.one-index;
}
