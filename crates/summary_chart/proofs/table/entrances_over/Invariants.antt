-- So many columns have their entrances.
use Rattle.std.proofs.Common.{◌+◌}
use Rattle.summary_chart.proofs.TableColumns.{AreColumns}
use Rattle.summary_chart.proofs.table.entrances_over.Given as goal

abbrev pub invariant-loop-place : goal.invariant-loop-place
invariant-loop-place l = AreColumns l.leads l.place l.entrances.items

abbrev pub invariant-loop-code : goal.invariant-loop-code
invariant-loop-code l = AreColumns l.leads (l.leads + l.code) l.entrances.items
