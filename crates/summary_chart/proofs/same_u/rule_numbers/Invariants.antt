-- The numbers so far stand in their places.
use Rattle.std.proofs.Common.{◌≡◌, ◌<◌, ◌+◌, ℕ, length, get_or}
use Rattle.summary_chart.proofs.same_u.rule_numbers.Given as goal

abbrev pub invariant-loop-number : goal.invariant-loop-number
invariant-loop-number l = record {
  count : l.count ≡ length l.rules.rules + 1;
  size : length l.numbers.items ≡ l.number;
  each : (n : ℕ) → n < l.number → get_or l.numbers.items n 0 ≡ n;
}
