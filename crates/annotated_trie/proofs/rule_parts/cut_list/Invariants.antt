-- the first rules of parts among the rules so far
use Rattle.std.proofs.Common.{◌≡◌, take}
use Rattle.annotated_trie.specs.Views.{parts_in}
use Rattle.annotated_trie.proofs.rule_parts.cut_list.Given as goal

abbrev pub invariant-loop-rule : goal.invariant-loop-rule
invariant-loop-rule l = l.heads.items ≡ parts_in l.rules (take l.rule-index l.list)
