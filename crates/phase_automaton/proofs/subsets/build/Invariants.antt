-- The sets so far, the steps of those whose rows were added, and which of these end words.
use Rattle.std.proofs.Common.{◌-◌, ◌≤◌, length, vec_len}
use Rattle.lexicon_definitions.specs.declared.limits.TheConstants.{MOST_GRAMMAR_STATES}
use Rattle.phase_automaton.specs.Subsets.{AreStates}
use Rattle.phase_automaton.proofs.SubsetTables.{AreRows, AreEnds}
use Rattle.phase_automaton.proofs.subsets.build.Given as goal

abbrev pub invariant-rows : goal.invariant-rows
invariant-rows l = record {
  states : AreStates l.positions l.sets.items;
  count : length l.accepting.items ≤ length l.sets.items;
  rows : AreRows l.positions l.phases l.sets.items l.steps.items (length l.accepting.items);
  ends : AreEnds l.ends l.sets.items l.accepting.items;
}

abbrev pub decreases-rows : goal.decreases-rows
decreases-rows l = MOST_GRAMMAR_STATES - vec_len l.accepting
