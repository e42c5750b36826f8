-- the nodes of the children so far were added, and there is room for the others
use Rattle.std.proofs.Common.{◌≡◌, ◌++◌, ◌+◌, ◌-◌, ◌≤◌, ℕ, length, map, take, vec_len, vec_capacity}
use Rattle.shared_trie.proofs.node_table.push_targets.Given as goal

abbrev pub invariant-loop-child : goal.invariant-loop-child
invariant-loop-child l =
    record {
      added : l.targets.items ≡ l.fn.targets.items ++ map (λ (child : ℕ × ℕ). child.1) (take l.child-index l.children);
      room : vec_len l.targets + (length l.children - l.child-index) ≤ vec_capacity l.targets;
    }
