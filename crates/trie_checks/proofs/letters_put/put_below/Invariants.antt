-- the letters of the children so far
use Rattle.std.proofs.Common.{ℕ, ◌↔◌, take, slice_index}
use Rattle.trie_checks.specs.Bounds.{HasOne}
use Rattle.trie_checks.specs.NumberSets.{HasNumber}
use Rattle.trie_checks.proofs.letters_put.put_below.Given as goal

abbrev pub invariant-loop-child : goal.invariant-loop-child
invariant-loop-child l =
    (letter : ℕ) → HasNumber l.set letter ↔ HasOne (λ (child : ℕ × ℕ). HasNumber (slice_index l.letters child.1) letter) (take l.child-index l.children)
