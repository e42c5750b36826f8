-- Stops and ways stay as they were while the starts grow.
use Rattle.std.proofs.Common.{◌≡◌, ◌+◌, ◌-◌, length}
use Rattle.summary_chart.proofs.place_ways.PlaceWays.push.Given as goal

abbrev pub invariant-loop-self : goal.invariant-loop-self
invariant-loop-self l =
    record {
      stops : l.self.stops ≡ l.fn.self.stops;
      ways : l.self.ways ≡ l.fn.self.ways;
      late : l.self.late ≡ l.fn.self.late;
    }

abbrev pub decreases-loop-self : goal.decreases-loop-self
decreases-loop-self l = l.at + 1 - length l.self.starts.items
