-- the rules so far whose first letter has the code
use Rattle.std.proofs.Common.{◌≡◌, take}
use Rattle.annotated_trie.specs.Choices.{with_first}
use Rattle.annotated_trie.proofs.rule_groups.rules_with.Given as goal

abbrev pub invariant-loop-number : goal.invariant-loop-number
invariant-loop-number l = l.rules.items ≡ with_first l.firsts l.code (take l.number-index l.list)
