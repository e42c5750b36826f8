-- Before each index the table is closed, and the ways that are kept are those of its places, few as they are; each index took its steps
-- twice at most. As long as each place had its stop kept, each place before the index has one.
use Rattle.std.proofs.Common.{◌≡◌, [], ◌+◌, ◌*◌, ◌≤◌, ◌-◌, ℕ, IsTrue, length}
use Rattle.search_frames.specs.Costs.{HasAtMostRules}
use Rattle.summary_chart.specs.Charts.{IsReachedBefore}
use Rattle.summary_chart.specs.PlaceWays.{AreFew, HaveStopsBefore, HaveWaysBefore, indices_of}
use Rattle.summary_chart.specs.Summaries.{steps_of_items}
use Rattle.summary_chart.specs.Walked.{IsSpreadRoom}
use Rattle.summary_chart.proofs.passes.reach.Given as goal

abbrev pub invariant-loop-index : goal.invariant-loop-index
invariant-loop-index g l =
    record {
      before : IsReachedBefore l.passage.lexicon.now l.passage.line.now l.passage.choices.now l.index l.table;
      kept : HaveWaysBefore l.passage.lexicon.now l.passage.line.now l.passage.choices.now l.index l.table l.kept.stops.items l.kept.ways.items;
      stops : IsTrue l.each_has_stop → HaveStopsBefore l.passage.lexicon.now l.passage.line.now l.index l.table (indices_of l.kept.stops.items);
      late : l.kept.late.items ≡ [];
      few : AreFew l.passage.lexicon.now l.passage.line.now l.kept.stops.items l.kept.ways.items;
      room : IsSpreadRoom l.passage.lexicon.now l.passage.line.now l.table l.room.walking;
      within : l.index ≤ length l.table.sets.items;
      steps : (most : ℕ) → HasAtMostRules l.passage.lexicon.now.tries most → l.steps ≤ l.fn.steps + l.index * (2 * steps_of_items l.passage.lexicon.now most);
    }

abbrev pub decreases-loop-index : goal.decreases-loop-index
decreases-loop-index g l = length l.table.sets.items - l.index
