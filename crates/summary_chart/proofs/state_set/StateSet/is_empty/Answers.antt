-- A number that is not 0 has a bit.
use Rattle.std.proofs.Common.{arith}
use Rattle.summary_chart.proofs.SetBits.{none_or_some}
use Rattle.summary_chart.proofs.state_set.StateSet.is_empty.Goals as goal

pub returns : goal.returns
returns c = none_or_some c.args.self.bits (omega arith)
