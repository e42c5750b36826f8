-- So far just the pairs that were gone over are allowed.
use Rattle.std.proofs.Common.{take}
use Rattle.sandhi_rules.specs.AllowedPairs.{AreAllowed}
use Rattle.sandhi_rules.proofs.plain_pairs.PlainPairs.of.Given as goal

abbrev pub invariant-loop-x : goal.invariant-loop-x
invariant-loop-x l = AreAllowed (take l.x-index l.pairs) l.allowed.items
