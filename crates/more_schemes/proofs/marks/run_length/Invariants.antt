-- The bytes so far and those of the rest's run are the bytes of the text's run.
use Rattle.std.proofs.Common.{length, drop, ◌+◌, ◌-◌, ◌≡◌, ◌≤◌}
use Rattle.more_schemes.specs.Values.{marks_of}
use Rattle.more_schemes.specs.Runs.{run_length}
use Rattle.more_schemes.proofs.marks.run_length.Given as goal

abbrev pub invariant-loop-length : goal.invariant-loop-length
invariant-loop-length l = record {
  within : l.length ≤ length l.text;
  whole : l.length + run_length (marks_of l.marks) (drop l.length l.text) ≡ run_length (marks_of l.marks) l.text;
}

abbrev pub decreases-loop-length : goal.decreases-loop-length
decreases-loop-length l = length l.text - l.length
