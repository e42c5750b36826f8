-- The items of the rules so far are there, and a rule whose u was seen after the front has its item.
use Rattle.std.proofs.Common.{◌+◌, ◌*◌, ◌≤◌, take}
use Rattle.summary_chart.specs.Summaries.{AddsItems, HasSeen, IsCollected, IsItemByRule}
use Rattle.summary_chart.proofs.collecting.collect_rules.Given as goal

abbrev pub invariant-loop-rule : goal.invariant-loop-rule
invariant-loop-rule g l = record {
  collected : IsCollected l.here.site.lexicon.now.lexicon.rules l.collected;
  adds : AddsItems (IsItemByRule l.here.site.lexicon.now l.here.site.line.now l.here.site.choices.now l.standing.table.now l.here.site.place.now.at l.here.site.place.now.entrance l.standing.states l.front.phase l.front.taken (take l.rule-index l.rules))
      l.fn.collected.items.items l.collected.items.items;
  seen : HasSeen l.here.site.lexicon.now l.here.site.line.now l.here.site.place.now.at l.here.site.place.now.entrance l.front.phase l.front.taken l.since l.collected;
  spent : l.steps ≤ l.fn.steps + 3 * l.rule-index;
  counted : l.fn.steps + l.rule-index ≤ l.steps;
}
