-- The ways of the phases so far to which some state leads, which are the last ones, are appended, and are not too many; each phase took its
-- steps.
use Rattle.std.proofs.Common.{◌+◌, ◌*◌, ◌≤◌, ℕ, length}
use Rattle.search_frames.specs.declared.way.TheConstants.{MOST_WAYS}
use Rattle.search_frames.specs.Costs.{HasAtMostRules}
use Rattle.search_frames.specs.Configurations.{rules_in}
use Rattle.search_frames.specs.Frames.{numbered_of}
use Rattle.summary_chart.specs.PlaceWays.{AppendsFalling}
use Rattle.summary_chart.specs.Summaries.{steps_of_fronts}
use Rattle.summary_chart.proofs.OrderedKeys.{IsLedFrom}
use Rattle.summary_chart.proofs.listing.push_ways.Given as goal

abbrev pub invariant-loop-phase : goal.invariant-loop-phase
invariant-loop-phase g l = record {
  low : l.phase ≤ length (rules_in l.site.lexicon.now).names;
  appends : AppendsFalling l.site.lexicon.now l.site.line.now l.site.choices.now (numbered_of l.site.lexicon.now l.site.place.now) (g.S.Sought.sought l.sought l.site) (IsLedFrom l.site.lexicon.now.machine l.states l.phase) l.fn.ways.items l.ways.items;
  few : length l.ways.items ≤ length l.fn.ways.items + MOST_WAYS;
  spent : (most : ℕ) → HasAtMostRules l.site.lexicon.now.tries most
      → l.steps + l.phase * (1 + steps_of_fronts most) ≤ l.fn.steps + length (rules_in l.site.lexicon.now).names * (1 + steps_of_fronts most);
}
