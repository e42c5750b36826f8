-- The items so far are those of the places before the index, and each index took its steps.
use Rattle.std.proofs.Common.{◌+◌, ◌*◌, ◌≤◌, ◌-◌, ℕ, length}
use Rattle.search_frames.specs.Costs.{HasAtMostRules}
use Rattle.summary_chart.specs.Summaries.{HasItemsBefore, IsCollected, steps_of_items}
use Rattle.summary_chart.proofs.chart.Chart.unsorted_items.Given as goal

abbrev pub invariant-loop-index : goal.invariant-loop-index
invariant-loop-index g l = record {
  items : HasItemsBefore l.lexicon l.line l.choices l.table l.index l.collected.items.items;
  collected : IsCollected l.lexicon.lexicon.rules l.collected;
  within : l.index ≤ length l.table.sets.items;
  spent : (most : ℕ) → HasAtMostRules l.lexicon.tries most → l.steps ≤ l.fn.steps + l.index * steps_of_items l.lexicon most;
}

abbrev pub decreases-loop-index : goal.decreases-loop-index
decreases-loop-index g l = length l.table.sets.items - l.index
