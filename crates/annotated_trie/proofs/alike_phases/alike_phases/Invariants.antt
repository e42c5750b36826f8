-- Each phase so far has one that no rule tells from it.
use Rattle.std.proofs.Common.{◌≡◌, length}
use Rattle.annotated_trie.specs.AlikePhases.{AreAlike}
use Rattle.annotated_trie.proofs.alike_phases.alike_phases.Given as goal

abbrev pub invariant-loop-phase : goal.invariant-loop-phase
invariant-loop-phase l = record {
  count : length l.firsts.items ≡ l.phase;
  alike : AreAlike l.rules l.phase l.firsts.items;
}
