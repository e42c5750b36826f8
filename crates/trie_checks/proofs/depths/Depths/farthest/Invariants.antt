-- the greatest of the numbers so far
use Rattle.std.proofs.Common.{take}
use Rattle.trie_checks.specs.Bounds.{IsGreatest}
use Rattle.trie_checks.proofs.depths.Depths.farthest.Given as goal

abbrev pub invariant-loop-least : goal.invariant-loop-least
invariant-loop-least l = IsGreatest (λ n. n) (take l.least-index l.self.least.items) l.farthest
