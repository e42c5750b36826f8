-- The states that live by the rules so far were found, of these one that does the same was looked at for each that has the turn, and each
-- rule took a step.
use Rattle.std.proofs.Common.{◌≡◌, ◌+◌, ◌≤◌, ◌↔◌, ℕ, length, take, Contains}
use Rattle.summary_chart.specs.Effects.{AreEffects, HaveLooked}
use Rattle.summary_chart.specs.Memos.{LivesBy}
use Rattle.summary_chart.specs.StateSets.{HasState}
use Rattle.summary_chart.proofs.living_work.living_by_rules.Given as goal

abbrev pub invariant-loop-rule : goal.invariant-loop-rule
invariant-loop-rule g l = record {
  low : l.rule-index ≤ length l.rules;
  effects : AreEffects l.site.lexicon.now.lexicon.rules l.effects;
  looked : HaveLooked l.site.lexicon.now.lexicon.rules (take l.rule-index l.rules) l.effects;
  living : (number : ℕ) → HasState l.living number ↔ LivesBy l.site.lexicon.now l.site.line.now l.table l.work (Contains (take l.rule-index l.rules)) number;
  spent : l.steps ≡ l.fn.steps + l.rule-index;
}
