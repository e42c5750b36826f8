-- For each rule one that does the same, and only numbers of rules are gone over.
use Rattle.std.proofs.Common.{◌≤◌, length, All}
use Rattle.summary_chart.specs.Effects.{HaveSameEffect}
use Rattle.summary_chart.proofs.same_effect.rules_with_same_effect.Given as goal

abbrev pub invariant-loop-number : goal.invariant-loop-number
invariant-loop-number l = record {
  same : HaveSameEffect l.rules l.same.items;
  last : l.last ≤ length l.rules.rules;
  numbers : All (λ n. n ≤ length l.rules.rules) l.number-items;
}
