-- What is printed is that of the steps so far, and the next step may follow.
use Rattle.std.proofs.Common.{◌≡◌, map, take}
use Rattle.answer_printing.specs.Fronts.{IsOpen, step_in}
use Rattle.answer_printing.proofs.spelled_line.SpelledLine.print_steps.Given as goal

abbrev pub invariant-loop-j : goal.invariant-loop-j
invariant-loop-j l = record {
  may_follow : IsOpen l.self.rules l.self.letters l.front.steps.items l.rule l.front.text.items;
  so_far : map step_in l.front.steps.items ≡ take l.j l.steps;
}
