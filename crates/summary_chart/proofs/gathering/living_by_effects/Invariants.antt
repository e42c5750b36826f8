-- The states after which the line goes on by the rules so far were found, of these one that does the same was looked at for each that has the
-- turn, and each rule took a step.
use Rattle.std.proofs.Common.{◌≡◌, ◌+◌, ◌≤◌, ℕ, length, take}
use Rattle.search_frames.specs.Frames.{numbered_of}
use Rattle.summary_chart.specs.declared.state_set.StateSet.{StateSet}
use Rattle.summary_chart.specs.Effects.{AreEffects, HaveLooked}
use Rattle.summary_chart.specs.Onward.{LivesMore}
use Rattle.summary_chart.specs.StateSets.{HasState}
use Rattle.summary_chart.specs.Spreading.{IsByRule}
use Rattle.summary_chart.proofs.gathering.living_by_effects.Given as goal

abbrev pub invariant-loop-rule : goal.invariant-loop-rule
invariant-loop-rule g l = record {
  low : l.rule-index ≤ length l.rules;
  effects : AreEffects l.here.site.lexicon.now.lexicon.rules l.effects;
  looked : HaveLooked l.here.site.lexicon.now.lexicon.rules (take l.rule-index l.rules) l.effects;
  living : (empty : StateSet) → ((number : ℕ) → HasState empty number → ⊥)
      → LivesMore l.here.site.lexicon.now l.here.site.line.now l.here.site.choices.now (numbered_of l.here.site.lexicon.now l.here.site.place.now)
      l.table (IsByRule l.front.phase l.front.taken (take l.rule-index l.rules)) empty l.living;
  spent : l.steps ≡ l.fn.steps + l.rule-index;
}
