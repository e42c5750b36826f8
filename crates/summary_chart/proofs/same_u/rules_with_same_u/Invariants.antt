-- For each rule one with the same u, and only numbers of rules are gone over.
use Rattle.std.proofs.Common.{◌≤◌, length, All}
use Rattle.summary_chart.specs.Summaries.{HaveSameU}
use Rattle.summary_chart.proofs.same_u.rules_with_same_u.Given as goal

abbrev pub invariant-loop-number : goal.invariant-loop-number
invariant-loop-number l = record {
  same : HaveSameU l.rules l.same.items;
  last : l.last ≤ length l.rules.rules;
  numbers : All (λ n. n ≤ length l.rules.rules) l.number-items;
}
