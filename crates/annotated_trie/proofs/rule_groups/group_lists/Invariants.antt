-- the lists so far have their groups
use Rattle.std.proofs.Common.{take}
use Rattle.annotated_trie.specs.RuleGroups.{AreGroupedBy}
use Rattle.annotated_trie.proofs.rule_groups.group_lists.Given as goal

abbrev pub invariant-loop-list : goal.invariant-loop-list
invariant-loop-list l = AreGroupedBy l.letters (take l.list-index l.lists) l.groups
