use Rattle.std.proofs.Common.{◌≡◌, [], take, drop}
use Rattle.rule_file_definitions.specs.SoundClasses.{are_new}
use Rattle.rule_file.proofs.classes.are_different.Given as goal

abbrev pub invariant-loop-place : goal.invariant-loop-place
invariant-loop-place l = are_new (take l.place l.letters) (drop l.place l.letters) ≡ are_new [] l.letters
