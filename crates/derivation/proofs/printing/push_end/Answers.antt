-- The parts are written one after another.
use Rattle.std.proofs.Common.{arith}
use Rattle.std.proofs.lemmas.Grind.{common_steps}
use Rattle.derivation.proofs.printing.push_end.Goals as goal

pub returns-in_ok-push_str-3 : goal.returns-in_ok-push_str-3
returns-in_ok-push_str-3 c = grind (arith, common_steps)

pub returns-in_default : goal.returns-in_default
returns-in_default c = grind (arith, common_steps)
