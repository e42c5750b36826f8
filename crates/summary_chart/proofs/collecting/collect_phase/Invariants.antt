-- The items of the fronts so far are there, and each front took its steps.
use Rattle.std.proofs.Common.{◌≡◌, ◌+◌, ◌*◌, ◌≤◌, ℕ, length}
use Rattle.lexicon_definitions.specs.declared.limits.TheConstants.{MOST_RULE_LETTERS}
use Rattle.search_frames.specs.declared.frame.TheConstants.{NODES_OF_FRAME}
use Rattle.search_frames.specs.Costs.{HasAtMostRules}
use Rattle.search_frames.specs.Frames.{numbered_of}
use Rattle.summary_chart.specs.Fronts.{AreFronts}
use Rattle.summary_chart.specs.Summaries.{AddsItems, IsCollected, steps_of_front}
use Rattle.summary_chart.proofs.CollectedItems.{IsItemBelow}
use Rattle.summary_chart.proofs.collecting.collect_phase.Given as goal

abbrev pub invariant-loop-taken : goal.invariant-loop-taken
invariant-loop-taken g l = record {
  fronts : AreFronts l.here.site.lexicon.now l.here.site.line.now (numbered_of l.here.site.lexicon.now l.here.site.place.now) l.phase l.here.ahead.limit l.nodes.items;
  end : l.taken-end ≡ length l.nodes.items;
  low : l.taken ≤ length l.nodes.items;
  collected : IsCollected l.here.site.lexicon.now.lexicon.rules l.collected;
  adds : AddsItems (IsItemBelow l.here.site.lexicon.now l.here.site.line.now l.here.site.choices.now l.standing.table.now l.here.site.place.now l.standing.states l.phase l.taken) l.fn.collected.items.items l.collected.items.items;
  spent : (most : ℕ) → HasAtMostRules l.here.site.lexicon.now.tries most
      → l.steps ≤ l.fn.steps + MOST_RULE_LETTERS + NODES_OF_FRAME + l.taken * steps_of_front most;
}
