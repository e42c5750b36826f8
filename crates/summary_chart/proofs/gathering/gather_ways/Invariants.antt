-- What was gathered so far are the states that go further by the keys of the ways so far, the part is that from the first living one of these
-- to the last, and each way took a step.
use Rattle.std.proofs.Common.{◌≡◌, ◌+◌, ◌≤◌, ℕ, length}
use Rattle.summary_chart.specs.declared.state_set.StateSet.{StateSet}
use Rattle.summary_chart.specs.StateSets.{HasState}
use Rattle.summary_chart.specs.PlaceWays.{IsLivingKey}
use Rattle.summary_chart.specs.Spreading.{GathersMore}
use Rattle.summary_chart.proofs.LivingParts.{HasLivingPart}
use Rattle.summary_chart.proofs.WayKeys.{IsAmongFirst}
use Rattle.summary_chart.proofs.gathering.gather_ways.Given as goal

abbrev pub invariant-loop-number : goal.invariant-loop-number
invariant-loop-number g l = record {
  low : l.number ≤ length l.ways;
  gathers : (empty : StateSet) → ((number : ℕ) → HasState empty number → ⊥)
      → GathersMore l.site.lexicon.now l.site.line.now l.site.choices.now l.table l.site.place.now.at l.site.place.now.entrance l.states (IsAmongFirst l.number l.ways) empty l.living.states;
  part : HasLivingPart (IsLivingKey l.site.lexicon.now l.site.line.now l.site.choices.now l.table l.site.place.now.at l.site.place.now.entrance l.states) l.ways l.number l.living.first l.living.end;
  spent : l.steps ≡ l.fn.steps + l.number;
}
