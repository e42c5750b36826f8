-- Each way spreads what its key leads on to; at the end the keys of all ways have, and no other key leads on to anything.
use Rattle.std.proofs.Common.{arith}
use Rattle.summary_chart.specs.declared.table.Table.{Table}
use Rattle.summary_chart.proofs.Visits.{spread_visit}
use Rattle.summary_chart.proofs.WayKeys.{visit_no_way, visit_way, visit_all_ways, has_if_led}
use Rattle.summary_chart.proofs.spreading.spread_ways.Goals as goal

pub loop-way-init : goal.loop-way-init
loop-way-init g c = record {
  lawful = c.requires.table;
  spreads = visit_no_way c.args.site.lexicon.now c.args.site.line.now c.args.site.choices.now c.args.site.place.now Table
      (spread_visit c.args.site.lexicon.now c.args.site.line.now c.args.site.choices.now c.args.site.place.now c.args.states) c.args.ways.now c.args.table.now;
  spent = omega arith;
}

pub loop-way-preserved : goal.loop-way-preserved
loop-way-preserved g c =
    let inv = c.loop-way.invariant in
    record {
      lawful = c.spread_way.ensures.table;
      spreads = visit_way c.args.site.lexicon.now c.args.site.line.now c.args.site.choices.now c.args.site.place.now Table
          (spread_visit c.args.site.lexicon.now c.args.site.line.now c.args.site.choices.now c.args.site.place.now c.args.states) c.args.ways.now
          c.loop-way.way-index c.way-item.result (record { below = c.loop-way-test.true; is = c.way-item.is })
          c.args.table.now c.loop-way.table c.spread_way.new.table inv.spreads c.spread_way.ensures.spreads;
      spent = omega (arith, inv.spent, c.tick.ensures);
    }

pub returns-clause-spreads : goal.returns-clause-spreads
returns-clause-spreads g c =
    visit_all_ways c.args.site.lexicon.now c.args.site.line.now c.args.site.choices.now c.args.site.place.now Table
    (spread_visit c.args.site.lexicon.now c.args.site.line.now c.args.site.choices.now c.args.site.place.now c.args.states) c.args.ways.now
    c.loop-way.way-index c.loop-way-test.false
    (has_if_led c.args.site.lexicon.now c.args.site.line.now c.args.site.choices.now c.args.site.place.now c.args.states c.args.ways.now c.requires.all)
    c.args.table.now c.loop-way.table c.loop-way.invariant.spreads
