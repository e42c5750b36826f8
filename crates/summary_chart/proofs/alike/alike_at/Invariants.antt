-- Each front that was looked at took a step.
use Rattle.std.proofs.Common.{◌≡◌, ◌+◌, ◌≤◌, length}
use Rattle.summary_chart.proofs.alike.alike_at.Given as goal

abbrev pub invariant-loop-number : goal.invariant-loop-number
invariant-loop-number g l = record {
  end : l.number-end ≡ length l.fronts;
  low : l.number ≤ length l.fronts;
  spent : l.steps ≡ l.fn.steps + l.number;
}
