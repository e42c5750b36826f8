-- One rule more (`VisitedKeys`).
use Rattle.std.proofs.Common.{◌≡◌, get_or, arith}
use Rattle.std.proofs.lemmas.List.{get_or_default}
use Rattle.summary_chart.specs.declared.table.Table.{Table}
use Rattle.summary_chart.proofs.VisitedKeys.{visit_no_rule, visit_rule, visit_all_rules}
use Rattle.summary_chart.proofs.PutKeys.{put_visit}
use Rattle.summary_chart.proofs.spreading.spread_rules.Goals as goal

pub loop-rule-init : goal.loop-rule-init
loop-rule-init g c = record {
  lawful = c.requires.table;
  spreads = visit_no_rule c.args.onward.here.site.lexicon.now c.args.onward.here.site.line.now c.args.onward.here.site.choices.now c.args.onward.here.site.place.now Table
      (put_visit c.args.onward.here.site.lexicon.now c.args.onward.here.site.line.now c.args.onward.here.site.choices.now c.args.onward.here.site.place.now c.args.onward.after) c.args.front.now.phase c.args.front.now.taken c.args.rules.now c.args.table.now;
  low = omega arith;
  spent = omega arith;
}

pub loop-rule-preserved : goal.loop-rule-preserved
loop-rule-preserved g c =
    let inv = c.loop-rule.invariant in
    let rules = c.args.rules.now in
    let rule = get_or rules c.loop-rule.rule-index 0 in
    let is : rule ≡ get_or rules c.loop-rule.rule-index rule = get_or_default rules c.loop-rule.rule-index 0 rule c.loop-rule-test.true in
    record {
      lawful = c.spread_key.ensures.table;
      spreads = visit_rule c.args.onward.here.site.lexicon.now c.args.onward.here.site.line.now c.args.onward.here.site.choices.now c.args.onward.here.site.place.now Table
          (put_visit c.args.onward.here.site.lexicon.now c.args.onward.here.site.line.now c.args.onward.here.site.choices.now c.args.onward.here.site.place.now c.args.onward.after) c.args.front.now.phase c.args.front.now.taken rules
          c.loop-rule.rule-index rule c.loop-rule-test.true is c.args.table.now c.loop-rule.table c.spread_key.new.table inv.spreads c.spread_key.ensures.spreads;
      low = omega (arith, c.loop-rule-test.true);
      spent = omega (arith, inv.spent, c.tick.ensures);
    }

pub returns-clause-spreads : goal.returns-clause-spreads
returns-clause-spreads g c =
    visit_all_rules c.args.onward.here.site.lexicon.now c.args.onward.here.site.line.now c.args.onward.here.site.choices.now c.args.onward.here.site.place.now Table
    (put_visit c.args.onward.here.site.lexicon.now c.args.onward.here.site.line.now c.args.onward.here.site.choices.now c.args.onward.here.site.place.now c.args.onward.after) c.args.front.now.phase c.args.front.now.taken c.args.rules.now
    c.loop-rule.rule-index c.loop-rule-test.false c.args.table.now c.loop-rule.table c.loop-rule.invariant.spreads
