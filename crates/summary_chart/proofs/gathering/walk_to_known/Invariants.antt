-- The fronts so far are walked, and each took its steps.
use Rattle.std.proofs.Common.{◌+◌, ◌*◌, ◌≤◌, length}
use Rattle.summary_chart.proofs.OrderedKeys.{fronts_left}
use Rattle.summary_chart.proofs.WalkSteps.{HasWalked}
use Rattle.summary_chart.proofs.gathering.walk_to_known.Given as goal

abbrev pub invariant-loop-next : goal.invariant-loop-next
invariant-loop-next g l = record {
  walked : HasWalked l.here l.first.phase l.next l.nodes.items;
  spent : l.steps ≤ l.fn.steps + 2 * length l.nodes.items;
}

abbrev pub decreases-loop-next : goal.decreases-loop-next
decreases-loop-next g l = fronts_left l.here.site.place.now.at l.here.ahead.limit l.next
