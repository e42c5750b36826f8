-- Bit by bit.
use Rattle.summary_chart.proofs.SetBits.{both_have}
use Rattle.summary_chart.proofs.state_set.StateSet.intersection.Goals as goal

pub returns : goal.returns
returns c = both_have c.args.self.bits c.args.other.bits
