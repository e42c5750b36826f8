-- the greatest need of the children so far
use Rattle.std.proofs.Common.{ℕ, ◌-◌, take, slice_index}
use Rattle.trie_checks.specs.Bounds.{IsGreatest}
use Rattle.trie_checks.proofs.depths.least_below.Given as goal

abbrev pub invariant-loop-child : goal.invariant-loop-child
invariant-loop-child l = IsGreatest (λ (child : ℕ × ℕ). slice_index l.least child.1 - 1) (take l.child-index l.children) l.most
