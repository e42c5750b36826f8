-- The ways of the fronts before the next one are appended, and are not too many; each front took its steps (`OrderedKeys`).
use Rattle.std.proofs.Common.{◌+◌, ◌≤◌, ℕ, length}
use Rattle.search_frames.specs.declared.way.TheConstants.{MOST_WAYS}
use Rattle.search_frames.specs.Costs.{HasAtMostRules}
use Rattle.search_frames.specs.Frames.{numbered_of}
use Rattle.summary_chart.proofs.OrderedKeys.{HasListed, HasSpent, fronts_left}
use Rattle.summary_chart.proofs.listing.push_phase.Given as goal

abbrev pub invariant-loop-next : goal.invariant-loop-next
invariant-loop-next g l = record {
  listed : HasListed l.here.site.lexicon.now l.here.site.line.now l.here.site.choices.now (numbered_of l.here.site.lexicon.now l.here.site.place.now) (g.S.Sought.sought l.sought l.here.site) l.phase l.here.ahead.limit l.next l.fn.ways.items l.ways.items;
  above : l.first ≤ length l.ways.items;
  few : length l.ways.items ≤ l.first + MOST_WAYS;
  spent : (most : ℕ) → HasAtMostRules l.here.site.lexicon.now.tries most → HasSpent most l.fn.steps l.next l.steps;
}

abbrev pub decreases-loop-next : goal.decreases-loop-next
decreases-loop-next g l = fronts_left l.here.site.place.now.at l.here.ahead.limit l.next
