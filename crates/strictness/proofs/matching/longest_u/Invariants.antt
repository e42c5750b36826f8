-- No u so far is longer.
use Rattle.std.proofs.Common.{◌≤◌, All, length, take}
use Rattle.lexicon_definitions.specs.declared.limits.TheConstants.{MOST_RULE_LETTERS}
use Rattle.lexicon_definitions.specs.Lexicons.{rule_of}
use Rattle.strictness.proofs.matching.longest_u.Given as goal

abbrev pub invariant-loop-number : goal.invariant-loop-number
invariant-loop-number l = record {
  value : All (λ number. length (rule_of l.fn.rules number).u ≤ l.longest) (take l.number-index l.numbers);
  short : l.longest ≤ MOST_RULE_LETTERS;
}
