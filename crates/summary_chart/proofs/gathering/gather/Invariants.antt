-- The states that go further by the phases so far are gathered, each front that was found has its living states, and each phase took its
-- steps.
use Rattle.std.proofs.Common.{◌≡◌, ◌+◌, ◌*◌, ◌≤◌, ℕ, length, All}
use Rattle.search_frames.specs.Costs.{HasAtMostRules}
use Rattle.search_frames.specs.Configurations.{rules_in}
use Rattle.search_frames.specs.Frames.{numbered_of}
use Rattle.summary_chart.specs.declared.state_set.StateSet.{StateSet}
use Rattle.summary_chart.specs.AlikeFronts.{IsLivingFront}
use Rattle.summary_chart.specs.LeadWalks.{IsLeadWalk}
use Rattle.summary_chart.specs.StateSets.{HasState}
use Rattle.summary_chart.specs.Spreading.{GathersMore}
use Rattle.summary_chart.specs.Summaries.{steps_of_fronts}
use Rattle.summary_chart.specs.Walked.{IsLater, IsLivingRoom}
use Rattle.summary_chart.proofs.VisitedKeys.{IsEarlier}
use Rattle.summary_chart.proofs.gathering.gather.Given as goal

abbrev pub invariant-loop-phase : goal.invariant-loop-phase
invariant-loop-phase g l = record {
  end : l.phase-end ≡ length (rules_in l.site.lexicon.now).names;
  low : l.phase ≤ length (rules_in l.site.lexicon.now).names;
  gathers : (empty : StateSet) → ((number : ℕ) → HasState empty number → ⊥)
      → GathersMore l.site.lexicon.now l.site.line.now l.site.choices.now l.table l.site.place.now.at l.site.place.now.entrance l.states (IsEarlier l.phase) empty l.gathered;
  known : IsLeadWalk l.site.lexicon.now (numbered_of l.site.lexicon.now l.site.place.now) l.lead;
  fronts : All (IsLivingFront l.site.lexicon.now l.site.line.now l.site.choices.now (numbered_of l.site.lexicon.now l.site.place.now) l.table) l.room.fronts.items;
  few : length l.room.fronts.items ≤ l.phase;
  room : IsLivingRoom l.site.lexicon.now l.site.line.now l.table l.room.walking;
  later : IsLater l.site.place.now.at l.fn.room.walking → IsLater l.site.place.now.at l.room.walking;
  spent : (most : ℕ) → HasAtMostRules l.site.lexicon.now.tries most → l.steps ≤ l.fn.steps + l.phase * (1 + steps_of_fronts most);
}
