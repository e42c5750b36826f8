-- the sum of the roots so far
use Rattle.std.proofs.Common.{◌≡◌, min, take, slice_index}
use Rattle.std.specs.Prelude.{sum_by}
use Rattle.trie_checks.specs.declared.pairs.TheConstants.{TOO_MANY}
use Rattle.trie_checks.proofs.pairs.pairs_of_all.Given as goal

abbrev pub invariant-loop-root : goal.invariant-loop-root
invariant-loop-root l = l.sum ≡ min (sum_by (λ root. slice_index l.counts root) (take l.root-index l.roots)) TOO_MANY
