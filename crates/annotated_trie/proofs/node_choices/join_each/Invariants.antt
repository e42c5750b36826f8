-- the lists of the sets so far
use Rattle.std.proofs.Common.{take}
use Rattle.annotated_trie.specs.Suffixes.{AreListsFrom}
use Rattle.annotated_trie.proofs.node_choices.join_each.Given as goal

abbrev pub invariant-loop-numbers : goal.invariant-loop-numbers
invariant-loop-numbers l = AreListsFrom l.groups (take l.numbers-index l.sets) l.lists.items
