-- Bit by bit.
use Rattle.summary_chart.proofs.SetBits.{either_has}
use Rattle.summary_chart.proofs.state_set.StateSet.union.Goals as goal

pub returns : goal.returns
returns c = either_has c.args.self.bits c.args.other.bits
