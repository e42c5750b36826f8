-- the letters of the children so far
use Rattle.std.proofs.Common.{ℕ, ◌↔◌, map, take}
use Rattle.std.specs.Prelude.{Contains}
use Rattle.shared_trie.specs.LetterSets.{letters_in}
use Rattle.shared_trie.proofs.packed_node.letters_of.Given as goal

abbrev pub invariant-loop-child : goal.invariant-loop-child
invariant-loop-child l =
    (other : ℕ) → Contains (letters_in l.letters) other ↔ Contains (map (λ (child : ℕ × ℕ). child.0) (take l.child-index l.children)) other
