-- One rule more (`VisitedKeys`), which is passed over where one that does the same was looked at (`SameKeys`).
use Rattle.std.proofs.Common.{◌≡◌, ◌<◌, ◌++◌, ◌∷◌, [], ℕ, List, get_or, take, sym, ap, subst, ◌∙◌, arith}
use Rattle.std.proofs.lemmas.List.{get_or_default, take_more}
use Rattle.std.proofs.lemmas.List.Elements.{All-get_or}
use Rattle.list_laws.proofs.Sorted.{not_Contains-nil}
use Rattle.lexicon_definitions.specs.Lexicons.{RuleSet}
use Rattle.summary_chart.specs.declared.state_set.StateSet.{StateSet}
use Rattle.summary_chart.specs.Effects.{AreEffects, DoSame, HaveLooked}
use Rattle.summary_chart.specs.Spreading.{IsByRule, OnlyKey}
use Rattle.summary_chart.specs.Summaries.{key_with}
use Rattle.summary_chart.proofs.LivingVisits.{all_living, lives_found, living_visit, none_living}
use Rattle.summary_chart.proofs.SameKeys.{living_passed}
use Rattle.summary_chart.proofs.VisitedKeys.{visit_rule, visit_all_rules}
use Rattle.summary_chart.proofs.gathering.living_by_effects.Goals as goal

pub loop-rule-init : goal.loop-rule-init
loop-rule-init g c =
    let front = c.args.front.now in
    record {
      living = none_living c.args.here.site.lexicon.now c.args.here.site.line.now c.args.here.site.choices.now c.args.here.site.place.now c.args.table.now
          (IsByRule front.phase front.taken (take 0 c.args.rules.now)) c.empty-living.result
          (λ key told. not_Contains-nil key.rule told.2) c.empty-living.ensures.none;
      low = omega arith;
      effects = subst (λ (rules : RuleSet). AreEffects rules c.begin.new.self) c.rules.ensures.value c.in_ok-begin.ensures.effects;
      looked = subst (λ (rules : RuleSet). HaveLooked rules [] c.begin.new.self) c.rules.ensures.value c.in_ok-begin.ensures.none;
      spent = omega arith;
    }

pub repeats-requires : goal.repeats-requires
repeats-requires g c = record {
  effects = subst (λ (rules : RuleSet). AreEffects rules c.loop-rule.effects) (sym c.rules-in-loop-rule.ensures.value) c.loop-rule.invariant.effects;
}

pub loop-rule-preserved-then-repeats : goal.loop-rule-preserved-then-repeats
loop-rule-preserved-then-repeats g c =
    let searched = c.args.here.site.lexicon.now in
    let line = c.args.here.site.line.now in
    let choices = c.args.here.site.choices.now in
    let front = c.args.front.now in
    let inv = c.loop-rule.invariant in
    let rules = c.args.rules.now in
    let set = searched.lexicon.rules in
    let rule = get_or rules c.loop-rule.rule-index 0 in
    let is : rule ≡ get_or rules c.loop-rule.rule-index rule = get_or_default rules c.loop-rule.rule-index 0 rule c.loop-rule-test.true in
    let value = c.rules-in-loop-rule.ensures.value in
    let have = subst (λ (s : RuleSet). HaveLooked s (take c.loop-rule.rule-index rules) c.loop-rule.effects) (sym value) inv.looked in
    let one = c.if-repeats.ensures.same (take c.loop-rule.rule-index rules) have in
    let above : 0 < rule = All-get_or (λ (n : ℕ). 0 < n) rules c.loop-rule.rule-index 0 c.loop-rule-test.true c.requires.rules in
    record {
      low = omega (arith, c.loop-rule-test.true);
      effects = subst (λ (s : RuleSet). AreEffects s c.repeats.new.self) value c.repeats.ensures.effects;
      looked = subst (λ (some : List ℕ). HaveLooked set some c.repeats.new.self)
          (sym (take_more rules c.loop-rule.rule-index rule c.loop-rule-test.true ∙ ap (λ (r : ℕ). take c.loop-rule.rule-index rules ++ r ∷ []) (sym is)))
          (subst (λ (s : RuleSet). HaveLooked s (take c.loop-rule.rule-index rules ++ rule ∷ []) c.repeats.new.self) value
          (c.repeats.ensures.looked (take c.loop-rule.rule-index rules) have));
      living = λ empty nothing. living_passed searched line choices c.args.here.site.place.now c.args.table.now c.requires.free front.phase front.taken
          c.args.here.ahead.may_end c.requires.here.ahead.ending rules c.requires.rules c.requires.possible c.loop-rule.rule-index rule c.loop-rule-test.true is one.0 one.1
          (subst (λ (s : RuleSet). DoSame s one.0 rule) value one.2) above empty c.loop-rule.living (inv.living empty nothing);
      spent = omega (arith, inv.spent, c.tick.ensures);
    }

pub loop-rule-preserved : goal.loop-rule-preserved
loop-rule-preserved g c =
    let searched = c.args.here.site.lexicon.now in
    let line = c.args.here.site.line.now in
    let choices = c.args.here.site.choices.now in
    let place = c.args.here.site.place.now in
    let table = c.args.table.now in
    let front = c.args.front.now in
    let inv = c.loop-rule.invariant in
    let rules = c.args.rules.now in
    let set = searched.lexicon.rules in
    let rule = get_or rules c.loop-rule.rule-index 0 in
    let is : rule ≡ get_or rules c.loop-rule.rule-index rule = get_or_default rules c.loop-rule.rule-index 0 rule c.loop-rule-test.true in
    let value = c.rules-in-loop-rule.ensures.value in
    let have = subst (λ (s : RuleSet). HaveLooked s (take c.loop-rule.rule-index rules) c.loop-rule.effects) (sym value) inv.looked in
    record {
      low = omega (arith, c.loop-rule-test.true);
      effects = subst (λ (s : RuleSet). AreEffects s c.repeats.new.self) value c.repeats.ensures.effects;
      looked = subst (λ (some : List ℕ). HaveLooked set some c.repeats.new.self)
          (sym (take_more rules c.loop-rule.rule-index rule c.loop-rule-test.true ∙ ap (λ (r : ℕ). take c.loop-rule.rule-index rules ++ r ∷ []) (sym is)))
          (subst (λ (s : RuleSet). HaveLooked s (take c.loop-rule.rule-index rules ++ rule ∷ []) c.repeats.new.self) value
          (c.repeats.ensures.looked (take c.loop-rule.rule-index rules) have));
      living = λ empty nothing. visit_rule searched line choices place StateSet
          (living_visit searched line choices place table) front.phase front.taken rules
          c.loop-rule.rule-index rule c.loop-rule-test.true is empty c.loop-rule.living c.union-living.result (inv.living empty nothing)
          (lives_found searched line choices place table
          (OnlyKey (key_with front.phase front.taken rule)) c.loop-rule.living c.living_by_key.result c.union-living.result
          c.living_by_key.ensures c.union-living.ensures);
      spent = omega (arith, inv.spent, c.tick.ensures);
    }

pub returns-clause-living : goal.returns-clause-living
returns-clause-living g c =
    let searched = c.args.here.site.lexicon.now in
    let line = c.args.here.site.line.now in
    let choices = c.args.here.site.choices.now in
    let place = c.args.here.site.place.now in
    let table = c.args.table.now in
    let front = c.args.front.now in
    let none = c.empty-living.ensures.none in
    all_living searched line choices place table
    (IsByRule front.phase front.taken c.args.rules.now) c.empty-living.result c.loop-rule.living none
    (visit_all_rules searched line choices place StateSet
    (living_visit searched line choices place table) front.phase front.taken c.args.rules.now
    c.loop-rule.rule-index c.loop-rule-test.false c.empty-living.result c.loop-rule.living (c.loop-rule.invariant.living c.empty-living.result none))
