-- A rule whose u was seen has its item already; else its item is put in where some state goes further (`CollectedItems`).
use Rattle.std.proofs.Common.{◌≡◌, take, get_or, sym, subst, arith}
use Rattle.std.proofs.lemmas.List.{get_or_default}
use Rattle.lexicon_definitions.specs.Lexicons.{RuleSet}
use Rattle.search_frames.specs.Frames.{numbered_of}
use Rattle.summary_chart.specs.Summaries.{AddsItems, IsCollected, IsItemByRule}
use Rattle.summary_chart.proofs.CollectedItems.{possible_number, rules_at_first, rule_more, rule_seen}
use Rattle.summary_chart.proofs.collecting.collect_rules.Goals as goal

pub loop-rule-init : goal.loop-rule-init
loop-rule-init g c =
    let place = c.args.here.site.place.now in
    let expected = c.in_ok-expect.ensures in
    let old = c.args.collected.now.items.items in
    record {
      collected = subst (λ (rules : RuleSet). IsCollected rules c.expect.new.self) c.rules.ensures.value expected.collected;
      adds = subst (AddsItems (IsItemByRule c.args.here.site.lexicon.now c.args.here.site.line.now c.args.here.site.choices.now c.args.standing.table.now place.at place.entrance c.args.standing.states c.args.front.now.phase c.args.front.now.taken (take 0 c.args.rules.now)) old)
          (sym expected.items)
          (rules_at_first c.args.here.site.lexicon.now c.args.here.site.line.now c.args.here.site.choices.now c.args.standing.table.now place.at place.entrance c.args.standing.states c.args.front.now.phase c.args.front.now.taken c.args.rules.now old);
      seen = λ rule few above.
          let made = expected.collected.within (get_or c.expect.new.self.same_u.items rule 0) in
          absurd (omega (arith, made, above, c.len-since.ensures, c.expect.new.self.items.ok));
      spent = omega arith;
      counted = omega arith;
    }

pub loop-rule-preserved-then-has : goal.loop-rule-preserved-then-has
loop-rule-preserved-then-has g c =
    let inv = c.loop-rule.invariant in
    let rules = c.args.rules.now in
    let rule = get_or rules c.loop-rule.rule-index 0 in
    let is : rule ≡ get_or rules c.loop-rule.rule-index rule = get_or_default rules c.loop-rule.rule-index 0 rule c.loop-rule-test.true in
    let place = c.args.here.site.place.now in
    let few = possible_number c.args.here.site.lexicon.now c.args.here.site.line.now (numbered_of c.args.here.site.lexicon.now place) c.args.front.now.phase c.args.front.now.taken c.args.rules.now c.loop-rule.rule-index rule
    c.loop-rule-test.true is c.requires.possible in
    record {
      collected = inv.collected;
      adds = rule_seen c.args.here.site.lexicon.now c.args.here.site.line.now c.args.here.site.choices.now c.args.standing.table.now place.at place.entrance c.args.standing.states c.args.front.now.phase c.args.front.now.taken c.args.rules.now
          c.loop-rule.rule-index rule c.loop-rule-test.true is c.args.collected.now.items.items c.loop-rule.collected.items.items
          (inv.seen rule few (c.has.ensures.0 c.if-has.true)) inv.adds;
      seen = inv.seen;
      spent = omega (arith, inv.spent, c.tick.ensures);
      counted = omega (arith, inv.counted, c.tick.ensures);
    }

pub loop-rule-preserved : goal.loop-rule-preserved
loop-rule-preserved g c =
    let inv = c.loop-rule.invariant in
    let rules = c.args.rules.now in
    let rule = get_or rules c.loop-rule.rule-index 0 in
    let is : rule ≡ get_or rules c.loop-rule.rule-index rule = get_or_default rules c.loop-rule.rule-index 0 rule c.loop-rule-test.true in
    let place = c.args.here.site.place.now in
    record {
      collected = c.in_ok-collect_key.ensures.collected;
      adds = rule_more c.args.here.site.lexicon.now c.args.here.site.line.now c.args.here.site.choices.now c.args.standing.table.now place.at place.entrance c.args.standing.states c.args.front.now.phase c.args.front.now.taken c.args.rules.now
          c.loop-rule.rule-index rule c.loop-rule-test.true is c.args.collected.now.items.items c.loop-rule.collected.items.items c.collect_key.new.collected.items.items
          inv.adds c.in_ok-collect_key.ensures.adds;
      seen = c.in_ok-collect_key.ensures.seen c.len-since.result inv.seen;
      spent = omega (arith, inv.spent, c.tick.ensures, c.collect_key.ensures.steps);
      counted = omega (arith, inv.counted, c.tick.ensures, c.collect_key.ensures.counted);
    }
