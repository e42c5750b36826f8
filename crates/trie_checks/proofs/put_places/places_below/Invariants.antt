-- the places of the children so far are in the set
use Rattle.std.proofs.Common.{◌+◌, ℕ, take, slice_index}
use Rattle.trie_checks.specs.Bounds.{HasOne}
use Rattle.trie_checks.specs.NumberSets.{HasNumber}
use Rattle.trie_checks.proofs.put_places.places_below.Given as goal

abbrev pub invariant-loop-child : goal.invariant-loop-child
invariant-loop-child l =
    (place : ℕ) → HasOne (λ (child : ℕ × ℕ). HasNumber (slice_index l.places child.1) (place + 1)) (take l.child-index l.children) → HasNumber l.below place
