-- the longest of the lists at the places so far
use Rattle.std.proofs.Common.{map, take}
use Rattle.annotated_trie.specs.Views.{list_at, IsMostRules}
use Rattle.annotated_trie.proofs.node_choices.longest_at.Given as goal

abbrev pub invariant-loop-place : goal.invariant-loop-place
invariant-loop-place l = IsMostRules (map (list_at l.lists) (take l.place-index l.places)) l.longest
