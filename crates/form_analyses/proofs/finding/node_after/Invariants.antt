-- The walk along all letters is the walk along those that are left, from the node so far.
use Rattle.std.proofs.Common.{◌≡◌, ◌<◌, length, drop}
use Rattle.lexicon_definitions.specs.Tries.{walk}
use Rattle.form_analyses.proofs.finding.node_after.Given as goal

abbrev pub invariant-loop-letter : goal.invariant-loop-letter
invariant-loop-letter l = record {
  there : l.node < length l.store.rows;
  same : walk l.store.rows l.fn.from l.letters ≡ walk l.store.rows l.node (drop l.letter-index l.letters);
}
