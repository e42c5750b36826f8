-- The items of the ways so far are there.
use Rattle.std.proofs.Common.{◌+◌, ◌*◌, ◌≤◌}
use Rattle.summary_chart.specs.Summaries.{AddsItems, IsCollected}
use Rattle.summary_chart.proofs.WayKeys.{IsItemAmongFirst}
use Rattle.summary_chart.proofs.collecting.collect_ways.Given as goal

abbrev pub invariant-loop-way : goal.invariant-loop-way
invariant-loop-way g l = record {
  collected : IsCollected l.site.lexicon.now.lexicon.rules l.collected;
  adds : AddsItems (IsItemAmongFirst l.site.lexicon.now l.site.line.now l.site.choices.now l.standing.table.now l.site.place.now l.standing.states l.ways l.way-index) l.fn.collected.items.items l.collected.items.items;
  spent : l.steps ≤ l.fn.steps + 3 * l.way-index;
  counted : l.fn.steps + l.way-index ≤ l.steps;
}
