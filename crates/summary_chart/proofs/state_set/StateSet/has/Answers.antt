-- A shift tests a bit.
use Rattle.summary_chart.proofs.SetBits.{has_tested}
use Rattle.summary_chart.proofs.state_set.StateSet.has.Goals as goal

pub returns : goal.returns
returns c = has_tested c.args.self.bits c.args.number
