-- The phases so far are covered, and each took its steps.
use Rattle.std.proofs.Common.{◌≡◌, ◌+◌, ◌*◌, ◌≤◌, length}
use Rattle.lexicon_definitions.specs.declared.limits.TheConstants.{MOST_RULE_LETTERS}
use Rattle.search_frames.specs.Configurations.{rules_in}
use Rattle.search_frames.specs.Frames.{numbered_of}
use Rattle.summary_chart.specs.AlikeFronts.{AreOnwardFronts}
use Rattle.summary_chart.specs.LeadWalks.{IsLeadWalk}
use Rattle.summary_chart.proofs.alike.find_onward.Given as goal

abbrev pub invariant-loop-phase : goal.invariant-loop-phase
invariant-loop-phase g l = record {
  end : l.phase-end ≡ length (rules_in l.site.lexicon.now).names;
  low : l.phase ≤ length (rules_in l.site.lexicon.now).names;
  few : length l.fronts.items ≤ l.phase;
  known : IsLeadWalk l.site.lexicon.now (numbered_of l.site.lexicon.now l.site.place.now) l.lead;
  fronts : AreOnwardFronts l.site.lexicon.now l.site.line.now l.site.choices.now (numbered_of l.site.lexicon.now l.site.place.now) l.states l.phase l.fronts.items;
  spent : l.steps ≤ l.fn.steps + l.phase * (1 + MOST_RULE_LETTERS + length (rules_in l.site.lexicon.now).names);
}
