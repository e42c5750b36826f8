-- What was spread so far is what the keys of the ways so far spread, and each way took a step.
use Rattle.std.proofs.Common.{◌≡◌, ◌+◌, length}
use Rattle.summary_chart.specs.Tables.{IsTable}
use Rattle.summary_chart.specs.Spreading.{Spreads, leads_in}
use Rattle.summary_chart.proofs.WayKeys.{IsAmongFirst}
use Rattle.summary_chart.proofs.spreading.spread_ways.Given as goal

abbrev pub invariant-loop-way : goal.invariant-loop-way
invariant-loop-way g l = record {
  lawful : IsTable (leads_in l.site.lexicon.now) (length l.site.line.now.letters) l.table;
  spreads : Spreads l.site.lexicon.now l.site.line.now l.site.choices.now l.site.place.now.at l.site.place.now.entrance l.states (IsAmongFirst l.way-index l.ways) l.fn.table l.table;
  spent : l.steps ≡ l.fn.steps + l.way-index;
}
