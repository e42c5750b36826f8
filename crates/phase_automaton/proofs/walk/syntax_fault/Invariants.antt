-- What the walk still finds is what it finds from the start.
use Rattle.std.proofs.Common.{◌≡◌, ◌≤◌, drop}
use Rattle.lexicon_definitions.specs.GrammarFaults.{fault_from, syntax_fault as syntax_fault_of}
use Rattle.phase_automaton.specs.Walks.{walk_of}
use Rattle.phase_automaton.proofs.walk.syntax_fault.Given as goal

abbrev pub invariant-loop-at : goal.invariant-loop-at
invariant-loop-at l = record {
  same : fault_from (walk_of l.walk) l.at (drop l.at l.text) ≡ syntax_fault_of l.text;
  brackets : l.walk.open_brackets ≤ l.at;
  name : l.walk.name_length ≤ l.at;
}
