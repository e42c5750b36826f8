-- the height is that above the children so far
use Rattle.std.proofs.Common.{◌≤◌, length, take}
use Rattle.shared_trie.specs.Heights.{IsHeightAbove}
use Rattle.shared_trie.proofs.heights.height_above.Given as goal

abbrev pub invariant-loop-child : goal.invariant-loop-child
invariant-loop-child l =
    record {
      value : IsHeightAbove l.heights (take l.child-index l.children) l.height;
      low : l.height ≤ length l.heights;
    }
