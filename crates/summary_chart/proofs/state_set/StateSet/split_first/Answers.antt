-- The lowest bit is that of the first state.
use Rattle.std.proofs.Common.{arith}
use Rattle.summary_chart.proofs.SetBits.{split_at_first}
use Rattle.summary_chart.proofs.state_set.StateSet.split_first.Goals as goal

pub returns : goal.returns
returns c = split_at_first c.args.self.bits (omega arith) c.if-self-eq0.false
