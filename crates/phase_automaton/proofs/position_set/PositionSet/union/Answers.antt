-- Bit by bit.
use Rattle.phase_automaton.proofs.PositionSetBits.{or_has}
use Rattle.phase_automaton.proofs.position_set.PositionSet.union.Goals as goal

pub returns : goal.returns
returns c = or_has c.args.self.bits c.args.other.bits
