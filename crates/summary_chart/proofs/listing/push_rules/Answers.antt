-- One rule more, which is below those before it (`OrderedKeys`).
use Rattle.std.proofs.Common.{◌≡◌, ◌+◌, ◌-◌, ◌<◌, ℕ, drop, get_or, length, subst, arith}
use Rattle.std.proofs.lemmas.List.{get_or_default}
use Rattle.search_frames.specs.Frames.{numbered_of}
use Rattle.summary_chart.specs.PlaceWays.{AppendsFalling}
use Rattle.summary_chart.specs.Spreading.{IsByRule}
use Rattle.summary_chart.proofs.OrderedKeys.{append_no_rule, append_rule}
use Rattle.summary_chart.proofs.listing.push_rules.Goals as goal

pub loop-place-init : goal.loop-place-init
loop-place-init g c =
    record {
      low = omega arith;
      appends = append_no_rule c.args.here.site.lexicon.now c.args.here.site.line.now c.args.here.site.choices.now (numbered_of c.args.here.site.lexicon.now c.args.here.site.place.now) (g.S.Sought.sought c.args.sought.now c.args.here.site) c.args.front.now.phase c.args.front.now.taken
          c.args.rules.now c.requires.rising (length c.args.rules.now) (omega arith) c.args.ways.now.items;
      spent = omega arith;
      counted = omega arith;
    }

pub loop-place-preserved : goal.loop-place-preserved
loop-place-preserved g c =
    let inv = c.loop-place.invariant in
    let rules = c.args.rules.now in
    let searched = c.args.here.site.lexicon.now in
    let here = numbered_of searched c.args.here.site.place.now in
    let place = c.loop-place.place - 1 in
    let one : c.loop-place.place ≡ place + 1 = omega (arith, c.loop-place-test.true) in
    let low : place < length rules = omega (arith, inv.low, one) in
    let rule = get_or rules place 0 in
    record {
      low = omega (arith, inv.low);
      appends = append_rule searched c.args.here.site.line.now c.args.here.site.choices.now here (g.S.Sought.sought c.args.sought.now c.args.here.site) c.args.front.now.phase c.args.front.now.taken
          rules c.requires.rising place rule low (get_or_default rules place 0 rule low)
          c.args.ways.now.items c.loop-place.ways.items c.push_rule.new.ways.items
          (subst (λ (n : ℕ). AppendsFalling searched c.args.here.site.line.now c.args.here.site.choices.now here (g.S.Sought.sought c.args.sought.now c.args.here.site)
          (IsByRule c.args.front.now.phase c.args.front.now.taken (drop n rules)) c.args.ways.now.items c.loop-place.ways.items) one inv.appends)
          c.in_ok-push_rule.ensures.appends;
      spent = omega (arith, inv.spent, one, c.tick.ensures, c.push_rule.ensures.steps);
      counted = omega (arith, inv.counted, one, c.tick.ensures, c.push_rule.ensures.counted);
    }

pub returns-clause-appends : goal.returns-clause-appends
returns-clause-appends g c =
    let none : c.loop-place.place ≡ 0 = omega (arith, c.loop-place-test.false) in
    let searched = c.args.here.site.lexicon.now in
    subst (λ (n : ℕ). AppendsFalling searched c.args.here.site.line.now c.args.here.site.choices.now (numbered_of searched c.args.here.site.place.now) (g.S.Sought.sought c.args.sought.now c.args.here.site)
    (IsByRule c.args.front.now.phase c.args.front.now.taken (drop n c.args.rules.now)) c.args.ways.now.items c.loop-place.ways.items) none
    c.loop-place.invariant.appends
