-- A number that is not 0 has a bit.
use Rattle.std.proofs.Common.{nat_eq, arith, refl}
use Rattle.phase_automaton.proofs.PositionSetBits.{empty_cases}
use Rattle.phase_automaton.proofs.position_set.PositionSet.is_empty.Goals as goal

pub returns : goal.returns
returns c = empty_cases c.args.self.bits (omega arith) (nat_eq c.args.self.bits 0) refl
