-- the rules so far have their groups
use Rattle.std.proofs.Common.{◌≡◌, take}
use Rattle.annotated_trie.specs.RuleParts.{ArePartRules}
use Rattle.annotated_trie.proofs.rule_parts.part_rules.Given as goal

abbrev pub invariant-loop-number : goal.invariant-loop-number
invariant-loop-number l =
    record {
      rule : l.rule ≡ l.number-index;
      parts : ArePartRules l.groups (take l.number-index l.numbers) l.parts;
    }
