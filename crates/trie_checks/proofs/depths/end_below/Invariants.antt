-- the least end of the children so far
use Rattle.std.proofs.Common.{ℕ, ◌-◌, take, slice_index}
use Rattle.trie_checks.specs.Bounds.{IsLeastEnd}
use Rattle.trie_checks.proofs.depths.end_below.Given as goal

abbrev pub invariant-loop-child : goal.invariant-loop-child
invariant-loop-child l = IsLeastEnd (λ (child : ℕ × ℕ). slice_index l.ends child.1 - 1) (take l.child-index l.children) l.end
