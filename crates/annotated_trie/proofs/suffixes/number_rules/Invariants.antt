-- the rules so far have their numbers, and each added no more suffixes than its u has letters
use Rattle.std.proofs.Common.{◌+◌, ◌*◌, ◌≤◌, length, take}
use Rattle.annotated_trie.specs.Suffixes.{AreNumbers}
use Rattle.annotated_trie.proofs.suffixes.number_rules.Given as goal

abbrev pub invariant-loop-rule : goal.invariant-loop-rule
invariant-loop-rule l =
    record {
      few : length l.suffixes.keys ≤ length l.fn.suffixes.keys + 8 * l.rule-index;
      numbers : AreNumbers l.suffixes.keys (take l.rule-index l.rules) l.numbers.items;
    }
