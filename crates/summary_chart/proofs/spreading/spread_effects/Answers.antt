-- One rule more (`VisitedKeys`), which is passed over where one that does the same was looked at (`AlikeRules`).
use Rattle.std.proofs.Common.{◌≡◌, ◌<◌, ◌++◌, ◌∷◌, [], ℕ, List, get_or, take, sym, ap, subst, ◌∙◌, arith}
use Rattle.std.proofs.lemmas.List.{get_or_default, take_more}
use Rattle.std.proofs.lemmas.List.Elements.{All-get_or}
use Rattle.lexicon_definitions.specs.Lexicons.{RuleSet}
use Rattle.summary_chart.specs.declared.table.Table.{Table}
use Rattle.summary_chart.specs.Effects.{AreEffects, DoSame, HaveLooked}
use Rattle.summary_chart.proofs.AlikeRules.{spread_passed}
use Rattle.summary_chart.proofs.VisitedKeys.{visit_no_rule, visit_rule, visit_all_rules}
use Rattle.summary_chart.proofs.PutKeys.{put_visit}
use Rattle.summary_chart.proofs.spreading.spread_effects.Goals as goal

pub loop-rule-init : goal.loop-rule-init
loop-rule-init g c = record {
  low = omega arith;
  effects = subst (λ (rules : RuleSet). AreEffects rules c.begin.new.self) c.rules.ensures.value c.in_ok-begin.ensures.effects;
  looked = subst (λ (rules : RuleSet). HaveLooked rules [] c.begin.new.self) c.rules.ensures.value c.in_ok-begin.ensures.none;
  lawful = c.requires.table;
  spreads = visit_no_rule c.args.onward.here.site.lexicon.now c.args.onward.here.site.line.now c.args.onward.here.site.choices.now c.args.onward.here.site.place.now Table
      (put_visit c.args.onward.here.site.lexicon.now c.args.onward.here.site.line.now c.args.onward.here.site.choices.now c.args.onward.here.site.place.now c.args.onward.after) c.args.front.now.phase c.args.front.now.taken c.args.rules.now c.args.table.now;
  spent = omega arith;
}

pub repeats-requires : goal.repeats-requires
repeats-requires g c = record {
  effects = subst (λ (rules : RuleSet). AreEffects rules c.loop-rule.effects) (sym c.rules-in-loop-rule.ensures.value) c.loop-rule.invariant.effects;
}

pub loop-rule-preserved-then-repeats : goal.loop-rule-preserved-then-repeats
loop-rule-preserved-then-repeats g c =
    let inv = c.loop-rule.invariant in
    let rules = c.args.rules.now in
    let set = c.args.onward.here.site.lexicon.now.lexicon.rules in
    let rule = get_or rules c.loop-rule.rule-index 0 in
    let is : rule ≡ get_or rules c.loop-rule.rule-index rule = get_or_default rules c.loop-rule.rule-index 0 rule c.loop-rule-test.true in
    let value = c.rules-in-loop-rule.ensures.value in
    let have = subst (λ (s : RuleSet). HaveLooked s (take c.loop-rule.rule-index rules) c.loop-rule.effects) (sym value) inv.looked in
    let one = c.if-repeats.ensures.same (take c.loop-rule.rule-index rules) have in
    let above : 0 < rule = All-get_or (λ (n : ℕ). 0 < n) rules c.loop-rule.rule-index 0 c.loop-rule-test.true c.requires.rules in
    record {
      low = omega (arith, c.loop-rule-test.true);
      effects = subst (λ (s : RuleSet). AreEffects s c.repeats.new.self) value c.repeats.ensures.effects;
      looked = subst (λ (some : List ℕ). HaveLooked set some c.repeats.new.self)
          (sym (take_more rules c.loop-rule.rule-index rule c.loop-rule-test.true ∙ ap (λ (r : ℕ). take c.loop-rule.rule-index rules ++ r ∷ []) (sym is)))
          (subst (λ (s : RuleSet). HaveLooked s (take c.loop-rule.rule-index rules ++ rule ∷ []) c.repeats.new.self) value
          (c.repeats.ensures.looked (take c.loop-rule.rule-index rules) have));
      lawful = inv.lawful;
      spreads = spread_passed rules c.loop-rule.rule-index rule c.loop-rule-test.true is one.0 one.1 c.args.onward.here.site.lexicon.now c.args.onward.here.site.line.now c.args.onward.here.site.choices.now
          c.args.onward.here.site.place.now c.args.onward.after c.args.front.now.phase c.args.front.now.taken c.requires.leads
          c.requires.rules c.requires.possible (subst (λ (s : RuleSet). DoSame s one.0 rule) value one.2) above c.args.table.now c.loop-rule.table inv.spreads;
      spent = omega (arith, inv.spent, c.tick.ensures);
    }

pub loop-rule-preserved : goal.loop-rule-preserved
loop-rule-preserved g c =
    let inv = c.loop-rule.invariant in
    let rules = c.args.rules.now in
    let set = c.args.onward.here.site.lexicon.now.lexicon.rules in
    let rule = get_or rules c.loop-rule.rule-index 0 in
    let is : rule ≡ get_or rules c.loop-rule.rule-index rule = get_or_default rules c.loop-rule.rule-index 0 rule c.loop-rule-test.true in
    let value = c.rules-in-loop-rule.ensures.value in
    let have = subst (λ (s : RuleSet). HaveLooked s (take c.loop-rule.rule-index rules) c.loop-rule.effects) (sym value) inv.looked in
    record {
      low = omega (arith, c.loop-rule-test.true);
      effects = subst (λ (s : RuleSet). AreEffects s c.repeats.new.self) value c.repeats.ensures.effects;
      looked = subst (λ (some : List ℕ). HaveLooked set some c.repeats.new.self)
          (sym (take_more rules c.loop-rule.rule-index rule c.loop-rule-test.true ∙ ap (λ (r : ℕ). take c.loop-rule.rule-index rules ++ r ∷ []) (sym is)))
          (subst (λ (s : RuleSet). HaveLooked s (take c.loop-rule.rule-index rules ++ rule ∷ []) c.repeats.new.self) value
          (c.repeats.ensures.looked (take c.loop-rule.rule-index rules) have));
      lawful = c.spread_key.ensures.table;
      spreads = visit_rule c.args.onward.here.site.lexicon.now c.args.onward.here.site.line.now c.args.onward.here.site.choices.now c.args.onward.here.site.place.now Table
          (put_visit c.args.onward.here.site.lexicon.now c.args.onward.here.site.line.now c.args.onward.here.site.choices.now c.args.onward.here.site.place.now c.args.onward.after) c.args.front.now.phase c.args.front.now.taken rules
          c.loop-rule.rule-index rule c.loop-rule-test.true is c.args.table.now c.loop-rule.table c.spread_key.new.table inv.spreads c.spread_key.ensures.spreads;
      spent = omega (arith, inv.spent, c.tick.ensures);
    }

pub returns-clause-spreads : goal.returns-clause-spreads
returns-clause-spreads g c =
    visit_all_rules c.args.onward.here.site.lexicon.now c.args.onward.here.site.line.now c.args.onward.here.site.choices.now c.args.onward.here.site.place.now Table
    (put_visit c.args.onward.here.site.lexicon.now c.args.onward.here.site.line.now c.args.onward.here.site.choices.now c.args.onward.here.site.place.now c.args.onward.after) c.args.front.now.phase c.args.front.now.taken c.args.rules.now
    c.loop-rule.rule-index c.loop-rule-test.false c.args.table.now c.loop-rule.table c.loop-rule.invariant.spreads
