-- So many answers were passed.
use Rattle.demo_counts.proofs.PassedAnswers.{IsUnderWay}
use Rattle.demo_counts.proofs.counting.pass_answers.Given as goal

abbrev pub invariant-loop-passed : goal.invariant-loop-passed
invariant-loop-passed g l = IsUnderWay l.initial.search l.search l.passed
