-- the groups for the codes so far
use Rattle.annotated_trie.specs.RuleGroups.{AddsGroups}
use Rattle.annotated_trie.proofs.rule_groups.push_groups.Given as goal

abbrev pub invariant-loop-code : goal.invariant-loop-code
invariant-loop-code l = AddsGroups l.firsts l.list l.fn.groups l.groups l.code
