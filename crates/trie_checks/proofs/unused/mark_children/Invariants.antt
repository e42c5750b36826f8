-- the children so far are marked
use Rattle.std.proofs.Common.{ℕ, ◌↔◌, ◌⊎◌, take}
use Rattle.trie_checks.specs.Marks.{IsMarked, LeadTo}
use Rattle.trie_checks.proofs.unused.mark_children.Given as goal

abbrev pub invariant-loop-child : goal.invariant-loop-child
invariant-loop-child l =
    (node : ℕ) → IsMarked l.used node ↔ (IsMarked l.initial.used node ⊎ LeadTo (take l.child-index l.children) node)
