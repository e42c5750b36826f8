-- the sum of the children so far
use Rattle.std.proofs.Common.{◌≡◌, ◌+◌, ℕ, min, take, slice_index}
use Rattle.std.specs.Prelude.{sum_by}
use Rattle.trie_checks.specs.declared.pairs.TheConstants.{TOO_MANY}
use Rattle.trie_checks.proofs.pairs.pairs_below.Given as goal

abbrev pub invariant-loop-child : goal.invariant-loop-child
invariant-loop-child l =
    l.sum ≡ min (l.own + sum_by (λ (child : ℕ × ℕ). slice_index l.counts child.1) (take l.child-index l.children)) TOO_MANY
