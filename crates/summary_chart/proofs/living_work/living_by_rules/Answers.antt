-- One rule more (`LivingKeys`), which is passed over where one that does the same was looked at (`AlikeRules`).
use Rattle.std.proofs.Common.{◌≡◌, ◌++◌, ◌∷◌, [], ℕ, List, get_or, take, sym, ap, subst, ◌∙◌, arith}
use Rattle.std.proofs.lemmas.List.{get_or_default, take_more}
use Rattle.lexicon_definitions.specs.Lexicons.{RuleSet}
use Rattle.summary_chart.specs.Effects.{AreEffects, DoSame, HaveLooked}
use Rattle.summary_chart.proofs.AlikeRules.{lives_passed}
use Rattle.summary_chart.proofs.LivingKeys.{lives_first, lives_more, lives_all}
use Rattle.summary_chart.proofs.living_work.living_by_rules.Goals as goal

pub loop-rule-init : goal.loop-rule-init
loop-rule-init g c = record {
  low = omega arith;
  effects = subst (λ (rules : RuleSet). AreEffects rules c.begin.new.self) c.rules.ensures.value c.in_ok-begin.ensures.effects;
  looked = subst (λ (rules : RuleSet). HaveLooked rules [] c.begin.new.self) c.rules.ensures.value c.in_ok-begin.ensures.none;
  living = lives_first c.args.site.lexicon.now c.args.site.line.now c.args.table.now c.args.work.now c.args.rules.now c.empty-living.result c.empty-living.ensures.none;
  spent = omega arith;
}

pub repeats-requires : goal.repeats-requires
repeats-requires g c = record {
  effects = subst (λ (rules : RuleSet). AreEffects rules c.loop-rule.effects) (sym c.rules-in-loop-rule.ensures.value) c.loop-rule.invariant.effects;
}

pub loop-rule-preserved-then-repeats : goal.loop-rule-preserved-then-repeats
loop-rule-preserved-then-repeats g c =
    let inv = c.loop-rule.invariant in
    let rules = c.args.rules.now in
    let set = c.args.site.lexicon.now.lexicon.rules in
    let rule = get_or rules c.loop-rule.rule-index 0 in
    let is : rule ≡ get_or rules c.loop-rule.rule-index rule = get_or_default rules c.loop-rule.rule-index 0 rule c.loop-rule-test.true in
    let value = c.rules-in-loop-rule.ensures.value in
    let have = subst (λ (s : RuleSet). HaveLooked s (take c.loop-rule.rule-index rules) c.loop-rule.effects) (sym value) inv.looked in
    let one = c.if-repeats.ensures.same (take c.loop-rule.rule-index rules) have in
    record {
      low = omega (arith, c.loop-rule-test.true);
      effects = subst (λ (s : RuleSet). AreEffects s c.repeats.new.self) value c.repeats.ensures.effects;
      looked = subst (λ (some : List ℕ). HaveLooked set some c.repeats.new.self)
          (sym (take_more rules c.loop-rule.rule-index rule c.loop-rule-test.true ∙ ap (λ (r : ℕ). take c.loop-rule.rule-index rules ++ r ∷ []) (sym is)))
          (subst (λ (s : RuleSet). HaveLooked s (take c.loop-rule.rule-index rules ++ rule ∷ []) c.repeats.new.self) value
          (c.repeats.ensures.looked (take c.loop-rule.rule-index rules) have));
      living = lives_passed rules c.loop-rule.rule-index rule c.loop-rule-test.true is one.0 one.1 c.args.site.lexicon.now c.args.site.line.now c.args.table.now
          c.args.work.now (subst (λ (s : RuleSet). DoSame s one.0 rule) value one.2) c.loop-rule.living inv.living;
      spent = omega (arith, inv.spent, c.tick.ensures);
    }

pub loop-rule-preserved : goal.loop-rule-preserved
loop-rule-preserved g c =
    let inv = c.loop-rule.invariant in
    let rules = c.args.rules.now in
    let set = c.args.site.lexicon.now.lexicon.rules in
    let rule = get_or rules c.loop-rule.rule-index 0 in
    let is : rule ≡ get_or rules c.loop-rule.rule-index rule = get_or_default rules c.loop-rule.rule-index 0 rule c.loop-rule-test.true in
    let value = c.rules-in-loop-rule.ensures.value in
    let have = subst (λ (s : RuleSet). HaveLooked s (take c.loop-rule.rule-index rules) c.loop-rule.effects) (sym value) inv.looked in
    record {
      low = omega (arith, c.loop-rule-test.true);
      effects = subst (λ (s : RuleSet). AreEffects s c.repeats.new.self) value c.repeats.ensures.effects;
      looked = subst (λ (some : List ℕ). HaveLooked set some c.repeats.new.self)
          (sym (take_more rules c.loop-rule.rule-index rule c.loop-rule-test.true ∙ ap (λ (r : ℕ). take c.loop-rule.rule-index rules ++ r ∷ []) (sym is)))
          (subst (λ (s : RuleSet). HaveLooked s (take c.loop-rule.rule-index rules ++ rule ∷ []) c.repeats.new.self) value
          (c.repeats.ensures.looked (take c.loop-rule.rule-index rules) have));
      living = lives_more c.args.site.lexicon.now c.args.site.line.now c.args.table.now c.args.work.now rules c.loop-rule.rule-index rule c.loop-rule-test.true is
          c.loop-rule.living c.living_by_rule.result c.union-living.result inv.living c.living_by_rule.ensures c.union-living.ensures;
      spent = omega (arith, inv.spent, c.tick.ensures);
    }

pub returns-clause-living : goal.returns-clause-living
returns-clause-living g c =
    let inv = c.loop-rule.invariant in
    lives_all c.args.site.lexicon.now c.args.site.line.now c.args.table.now c.args.work.now c.args.rules.now c.loop-rule.rule-index c.loop-rule-test.false
    c.loop-rule.living inv.living
