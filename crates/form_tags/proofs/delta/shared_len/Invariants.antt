-- The fronts of this length are the same.
use Rattle.std.proofs.Common.{◌≡◌, ◌-◌, ◌≤◌, length, take}
use Rattle.form_tags.proofs.delta.shared_len.Given as goal

abbrev pub invariant-loop-shared : goal.invariant-loop-shared
invariant-loop-shared l =
    record {
      in_form : l.shared ≤ length l.form;
      in_stem : l.shared ≤ length l.stem;
      same : take l.shared l.form ≡ take l.shared l.stem;
    }

abbrev pub decreases-loop-shared : goal.decreases-loop-shared
decreases-loop-shared l = length l.form - l.shared
