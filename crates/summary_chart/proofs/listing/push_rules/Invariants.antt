-- The ways of the rules so far, which are the last ones, are appended.
use Rattle.std.proofs.Common.{◌+◌, ◌*◌, ◌≤◌, drop, length}
use Rattle.search_frames.specs.Frames.{numbered_of}
use Rattle.summary_chart.specs.PlaceWays.{AppendsFalling}
use Rattle.summary_chart.specs.Spreading.{IsByRule}
use Rattle.summary_chart.proofs.listing.push_rules.Given as goal

abbrev pub invariant-loop-place : goal.invariant-loop-place
invariant-loop-place g l = record {
  low : l.place ≤ length l.rules;
  appends : AppendsFalling l.here.site.lexicon.now l.here.site.line.now l.here.site.choices.now (numbered_of l.here.site.lexicon.now l.here.site.place.now) (g.S.Sought.sought l.sought l.here.site) (IsByRule l.front.phase l.front.taken (drop l.place l.rules)) l.fn.ways.items l.ways.items;
  spent : l.steps + 2 * l.place ≤ l.fn.steps + 2 * length l.rules;
  counted : l.fn.steps + length l.rules ≤ l.steps + l.place;
}
