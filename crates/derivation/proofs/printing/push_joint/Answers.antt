-- The parts are written one after another.
use Rattle.std.proofs.Common.{arith}
use Rattle.std.proofs.lemmas.Grind.{common_steps}
use Rattle.derivation.proofs.printing.push_joint.Goals as goal

pub returns-in_ok-push_str-in-None : goal.returns-in_ok-push_str-in-None
returns-in_ok-push_str-in-None c = grind (arith, common_steps)

pub returns-in_ok-push_str-in-Some-3 : goal.returns-in_ok-push_str-in-Some-3
returns-in_ok-push_str-in-Some-3 c = grind (arith, common_steps)
