-- One rule more (`VisitedKeys`).
use Rattle.std.proofs.Common.{◌≡◌, get_or, take, arith}
use Rattle.std.proofs.lemmas.List.{get_or_default}
use Rattle.list_laws.proofs.Sorted.{not_Contains-nil}
use Rattle.summary_chart.specs.declared.state_set.StateSet.{StateSet}
use Rattle.summary_chart.specs.Spreading.{IsByRule, OnlyKey}
use Rattle.summary_chart.specs.Summaries.{key_with}
use Rattle.summary_chart.proofs.LivingVisits.{all_living, lives_found, living_visit, none_living}
use Rattle.summary_chart.proofs.VisitedKeys.{visit_rule, visit_all_rules}
use Rattle.summary_chart.proofs.gathering.living_by_all.Goals as goal

pub loop-rule-init : goal.loop-rule-init
loop-rule-init g c =
    let searched = c.args.here.site.lexicon.now in
    let line = c.args.here.site.line.now in
    let choices = c.args.here.site.choices.now in
    let place = c.args.here.site.place.now in
    let table = c.args.table.now in
    let front = c.args.front.now in
    record {
      living = none_living searched line choices place table
          (IsByRule front.phase front.taken (take 0 c.args.rules.now)) c.empty-living.result
          (λ key told. not_Contains-nil key.rule told.2) c.empty-living.ensures.none;
      low = omega arith;
      spent = omega arith;
    }

pub loop-rule-preserved : goal.loop-rule-preserved
loop-rule-preserved g c =
    let searched = c.args.here.site.lexicon.now in
    let line = c.args.here.site.line.now in
    let choices = c.args.here.site.choices.now in
    let place = c.args.here.site.place.now in
    let table = c.args.table.now in
    let front = c.args.front.now in
    let inv = c.loop-rule.invariant in
    let rules = c.args.rules.now in
    let rule = get_or rules c.loop-rule.rule-index 0 in
    let is : rule ≡ get_or rules c.loop-rule.rule-index rule = get_or_default rules c.loop-rule.rule-index 0 rule c.loop-rule-test.true in
    record {
      living = λ empty nothing. visit_rule searched line choices place StateSet
          (living_visit searched line choices place table) front.phase front.taken rules
          c.loop-rule.rule-index rule c.loop-rule-test.true is empty c.loop-rule.living c.union-living.result (inv.living empty nothing)
          (lives_found searched line choices place table
          (OnlyKey (key_with front.phase front.taken rule)) c.loop-rule.living c.living_by_key.result c.union-living.result
          c.living_by_key.ensures c.union-living.ensures);
      low = omega (arith, c.loop-rule-test.true);
      spent = omega (arith, inv.spent, c.tick.ensures);
    }

pub returns-clause-living : goal.returns-clause-living
returns-clause-living g c =
    let searched = c.args.here.site.lexicon.now in
    let line = c.args.here.site.line.now in
    let choices = c.args.here.site.choices.now in
    let place = c.args.here.site.place.now in
    let table = c.args.table.now in
    let front = c.args.front.now in
    let none = c.empty-living.ensures.none in
    all_living searched line choices place table
    (IsByRule front.phase front.taken c.args.rules.now) c.empty-living.result c.loop-rule.living none
    (visit_all_rules searched line choices place StateSet
    (living_visit searched line choices place table) front.phase front.taken c.args.rules.now
    c.loop-rule.rule-index c.loop-rule-test.false c.empty-living.result c.loop-rule.living (c.loop-rule.invariant.living c.empty-living.result none))
