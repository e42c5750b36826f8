-- From each index on the table has only living places, and the living ways of its places are kept, also by the late stops; each of these indices took its
-- steps. The stops that are not left stand there too, and where each place had its stop, each still has.
use Rattle.std.proofs.Common.{◌+◌, ◌*◌, ◌≤◌, ◌++◌, ℕ, IsTrue, length}
use Rattle.search_frames.specs.Costs.{HasAtMostRules}
use Rattle.summary_chart.specs.Charts.{IsAliveFrom}
use Rattle.summary_chart.specs.PlaceWays.{AreFew, AreFrom, AreLateStops, HaveLivingWays, HaveStops, indices_of}
use Rattle.summary_chart.specs.Summaries.{steps_of_items, steps_of_summary}
use Rattle.summary_chart.specs.Walked.{IsLivingRoom}
use Rattle.summary_chart.proofs.LivingRooms.{LeadsPast}
use Rattle.summary_chart.proofs.passes.keep_living.Given as goal

abbrev pub invariant-loop-until : goal.invariant-loop-until
invariant-loop-until g l =
    record {
      from : IsAliveFrom l.passage.lexicon.now l.passage.line.now l.passage.choices.now l.until l.table;
      kept : HaveLivingWays l.passage.lexicon.now l.passage.line.now l.passage.choices.now l.table l.kept.stops.items l.kept.ways.items;
      late : AreLateStops l.passage.lexicon.now l.passage.line.now l.passage.choices.now l.table l.kept.late.items l.kept.ways.items;
      few : AreFew l.passage.lexicon.now l.passage.line.now (l.kept.stops.items ++ l.kept.late.items) l.kept.ways.items;
      left : l.left ≤ length l.kept.stops.items;
      later : AreFrom l.until (indices_of l.kept.stops.items) l.left;
      stops : IsTrue l.each_has_stop → HaveStops l.passage.lexicon.now l.passage.line.now l.table (indices_of l.kept.stops.items);
      room : IsLivingRoom l.passage.lexicon.now l.passage.line.now l.table l.room.walking;
      past : LeadsPast l.passage.lexicon.now l.until l.room.walking;
      low : l.until ≤ length l.table.sets.items;
      steps : (most : ℕ) → HasAtMostRules l.passage.lexicon.now.tries most
          → l.steps + l.until * (2 * steps_of_items l.passage.lexicon.now most) ≤ l.fn.steps + 2 * steps_of_summary l.passage.lexicon.now l.passage.line.now most;
    }

abbrev pub decreases-loop-until : goal.decreases-loop-until
decreases-loop-until g l = l.until
