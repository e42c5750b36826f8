-- Each way adds its item; at the end those of all ways are there, and no state goes further by another key (`WayKeys`).
use Rattle.std.proofs.Common.{arith}
use Rattle.summary_chart.proofs.WayKeys.{items_at_first, items_more, items_at_last}
use Rattle.summary_chart.proofs.collecting.collect_ways.Goals as goal

pub loop-way-init : goal.loop-way-init
loop-way-init g c = record {
  collected = c.requires.collected;
  adds = items_at_first c.args.site.lexicon.now c.args.site.line.now c.args.site.choices.now c.args.standing.table.now c.args.site.place.now c.args.standing.states c.args.ways.now
      c.args.collected.now.items.items;
  spent = omega arith;
  counted = omega arith;
}

pub loop-way-preserved : goal.loop-way-preserved
loop-way-preserved g c =
    let inv = c.loop-way.invariant in
    record {
      collected = c.in_ok-collect_way.ensures.collected;
      adds = items_more c.args.site.lexicon.now c.args.site.line.now c.args.site.choices.now c.args.standing.table.now c.args.site.place.now c.args.standing.states c.args.ways.now c.loop-way.way-index
          c.way-item.result (record { below = c.loop-way-test.true; is = c.way-item.is })
          c.args.collected.now.items.items c.loop-way.collected.items.items c.collect_way.new.collected.items.items inv.adds c.in_ok-collect_way.ensures.adds;
      spent = omega (arith, inv.spent, c.tick.ensures, c.collect_way.ensures.steps);
      counted = omega (arith, inv.counted, c.tick.ensures, c.collect_way.ensures.counted);
    }

pub returns-clause-adds : goal.returns-clause-adds
returns-clause-adds g c =
    items_at_last c.args.site.lexicon.now c.args.site.line.now c.args.site.choices.now c.args.standing.table.now c.args.site.place.now c.args.standing.states c.args.ways.now c.loop-way.way-index
    c.loop-way-test.false c.requires.all c.args.collected.now.items.items c.loop-way.collected.items.items c.loop-way.invariant.adds
