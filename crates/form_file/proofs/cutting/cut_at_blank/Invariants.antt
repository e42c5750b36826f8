-- No byte so far is a blank.
use Rattle.std.proofs.Common.{◌≢◌, ◌≤◌, ◌-◌, All, length, take}
use Rattle.form_file.proofs.cutting.cut_at_blank.Given as goal

abbrev pub invariant-loop-blank : goal.invariant-loop-blank
invariant-loop-blank l = record {
  within : l.blank ≤ length l.text;
  apart : All (λ byte. byte ≢ 32) (take l.blank l.text);
}

abbrev pub decreases-loop-blank : goal.decreases-loop-blank
decreases-loop-blank l = length l.text - l.blank
