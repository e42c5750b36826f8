-- the parts of the lists so far
use Rattle.std.proofs.Common.{◌≡◌, take}
use Rattle.annotated_trie.specs.Views.{parts_of_lists}
use Rattle.annotated_trie.proofs.rule_parts.cut_lists.Given as goal

abbrev pub invariant-loop-list : goal.invariant-loop-list
invariant-loop-list l = l.parts ≡ parts_of_lists l.rules (take l.list-index l.lists)
