-- What the rules so far lead on to is in the table, and of these one that does the same was looked at for each that has the turn.
use Rattle.std.proofs.Common.{◌≡◌, ◌+◌, ◌≤◌, length, take}
use Rattle.summary_chart.specs.Effects.{AreEffects, HaveLooked}
use Rattle.summary_chart.specs.Onward.{SpreadsOnward}
use Rattle.summary_chart.specs.Tables.{IsTable}
use Rattle.summary_chart.specs.Spreading.{IsByRule, leads_in}
use Rattle.summary_chart.proofs.spreading.spread_effects.Given as goal

abbrev pub invariant-loop-rule : goal.invariant-loop-rule
invariant-loop-rule g l = record {
  low : l.rule-index ≤ length l.rules;
  effects : AreEffects l.onward.here.site.lexicon.now.lexicon.rules l.effects;
  looked : HaveLooked l.onward.here.site.lexicon.now.lexicon.rules (take l.rule-index l.rules) l.effects;
  lawful : IsTable (leads_in l.onward.here.site.lexicon.now) (length l.onward.here.site.line.now.letters) l.table;
  spreads : SpreadsOnward l.onward (IsByRule l.front.phase l.front.taken (take l.rule-index l.rules)) l.fn.table l.table;
  spent : l.steps ≡ l.fn.steps + l.rule-index;
}
