-- the roots so far may stand after no letters
use Rattle.std.proofs.Common.{take}
use Rattle.std.specs.Prelude.{All}
use Rattle.trie_checks.specs.NodeDepths.{MayBegin}
use Rattle.trie_checks.proofs.depths.Depths.may_begin.Given as goal

abbrev pub invariant-loop-root : goal.invariant-loop-root
invariant-loop-root l = All (MayBegin l.self.least.items l.self.ends.items) (take l.root-index l.roots)
