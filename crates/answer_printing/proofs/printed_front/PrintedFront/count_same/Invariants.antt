-- The steps so far are the same.
use Rattle.std.proofs.Common.{◌≡◌, ◌-◌, ◌<◌, ◌⊎◌, map, take}
use Rattle.answer_printing.specs.Fronts.{step_in}
use Rattle.answer_printing.proofs.printed_front.PrintedFront.count_same.Given as goal

abbrev pub invariant-loop-same : goal.invariant-loop-same
invariant-loop-same l = record {
  so_far : map step_in (take l.same l.self.steps.items) ≡ take l.same l.steps;
  below : (l.same < l.most) ⊎ (l.same ≡ 0);
}

abbrev pub decreases-loop-same : goal.decreases-loop-same
decreases-loop-same l = l.most - l.same
