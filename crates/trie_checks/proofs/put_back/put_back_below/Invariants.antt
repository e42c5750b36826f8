-- none of the children so far
use Rattle.std.proofs.Common.{ℕ, ◌⊎◌, take, slice_index}
use Rattle.trie_checks.specs.Bounds.{HasOne}
use Rattle.trie_checks.specs.NumberSets.{HasNumber}
use Rattle.trie_checks.specs.Marks.{IsMarked}
use Rattle.trie_checks.proofs.put_back.put_back_below.Given as goal

abbrev pub invariant-loop-letter : goal.invariant-loop-letter
invariant-loop-letter l =
    HasOne (λ (child : ℕ × ℕ). HasNumber (slice_index l.letters child.1) child.0 ⊎ IsMarked l.put_back child.1) (take l.letter-index l.children) → ⊥
