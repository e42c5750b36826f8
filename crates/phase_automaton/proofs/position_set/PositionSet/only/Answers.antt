-- Bit by bit.
use Rattle.phase_automaton.proofs.PositionSetBits.{only_has}
use Rattle.phase_automaton.proofs.position_set.PositionSet.only.Goals as goal

pub returns : goal.returns
returns c = λ other. only_has c.args.position other c.requires
