-- Each part of a chart may be shared.
use denote.Param.Send.{sendable}
use Rattle.std.proofs.Crossing.{crosses}
use Rattle.summary_chart.proofs.sharing.charts_are_shared.Goals as goal

pub returns : goal.returns
returns c = search (sendable, crosses) depth 60 fits 50000
