-- The steps so far lead to the sets so far.
use Rattle.phase_automaton.specs.Subsets.{AreStates, Extends, AddsRow}
use Rattle.phase_automaton.proofs.subsets.add_row.Given as goal

abbrev pub invariant-loop-phase : goal.invariant-loop-phase
invariant-loop-phase l = record {
  states : AreStates l.positions l.sets.items;
  extends : Extends l.initial.sets.items l.sets.items;
  row : AddsRow l.positions l.sets.items l.fn.set l.initial.steps.items l.steps.items l.phase;
}
