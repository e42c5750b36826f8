-- the first letters of the rules so far
use Rattle.std.proofs.Common.{◌≡◌, map, take}
use Rattle.annotated_trie.specs.Choices.{first_letter}
use Rattle.annotated_trie.proofs.rule_groups.first_letters.Given as goal

abbrev pub invariant-loop-rule : goal.invariant-loop-rule
invariant-loop-rule l = l.firsts.items ≡ map first_letter (take l.rule-index l.rules)
