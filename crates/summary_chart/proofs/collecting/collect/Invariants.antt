-- The items of the phases so far are there, and each phase took its steps.
use Rattle.std.proofs.Common.{◌≡◌, ◌+◌, ◌*◌, ◌≤◌, ℕ, length}
use Rattle.search_frames.specs.Costs.{HasAtMostRules}
use Rattle.search_frames.specs.Configurations.{rules_in}
use Rattle.summary_chart.specs.Summaries.{AddsItems, IsCollected, steps_of_fronts}
use Rattle.summary_chart.proofs.CollectedItems.{IsItemEarlier}
use Rattle.summary_chart.proofs.collecting.collect.Given as goal

abbrev pub invariant-loop-phase : goal.invariant-loop-phase
invariant-loop-phase g l = record {
  end : l.phase-end ≡ length (rules_in l.site.lexicon.now).names;
  low : l.phase ≤ length (rules_in l.site.lexicon.now).names;
  collected : IsCollected l.site.lexicon.now.lexicon.rules l.collected;
  adds : AddsItems (IsItemEarlier l.site.lexicon.now l.site.line.now l.site.choices.now l.standing.table.now l.site.place.now l.standing.states l.phase) l.fn.collected.items.items l.collected.items.items;
  spent : (most : ℕ) → HasAtMostRules l.site.lexicon.now.tries most → l.steps ≤ l.fn.steps + l.phase * (1 + steps_of_fronts most);
}
