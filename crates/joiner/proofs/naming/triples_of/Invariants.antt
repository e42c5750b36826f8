-- The triples so far are those of the rules so far.
use Rattle.std.proofs.Common.{◌≡◌, map, take}
use Rattle.sandhi_rules.specs.Triples.{triple_of}
use Rattle.joiner.proofs.naming.triples_of.Given as goal

abbrev pub invariant-loop-rule : goal.invariant-loop-rule
invariant-loop-rule l = l.triples.keys ≡ map triple_of (take l.rule-index l.rules)
