-- What is read of the rest comes after the steps so far.
use Rattle.std.proofs.Common.{◌+◌, ◌≤◌, length}
use Rattle.joiner.proofs.StepsRead.{AreStepsSoFar}
use Rattle.joiner.proofs.shape.read_steps.Given as goal

abbrev pub decreases-loop-form : goal.decreases-loop-form
decreases-loop-form l = length l.rest

abbrev pub invariant-loop-form : goal.invariant-loop-form
invariant-loop-form l = record {
  so_far : AreStepsSoFar l.text l.steps.items l.rest;
  few : length l.steps.items + length l.rest ≤ length l.text;
}
