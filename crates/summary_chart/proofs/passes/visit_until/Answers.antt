-- Each place before the index has one of the stops left, and none of these stands after the last (`StopIndices`); or its set is not empty.
use Rattle.std.proofs.Common.{◌-◌, [], length, arith}
use Rattle.std.proofs.lemmas.List.{get_or_read}
use Rattle.summary_chart.proofs.StopIndices.{none_after_last, none_left}
use Rattle.summary_chart.proofs.TableItems.{none_in_empty}
use Rattle.summary_chart.proofs.passes.visit_until.Goals as goal

pub returns-then-not-each_has_stop-clause-none : goal.returns-then-not-each_has_stop-clause-none
returns-then-not-each_has_stop-clause-none c searched line lawful have =
    none_in_empty searched line [] c.args.table.now lawful c.filled_until.result c.args.until c.filled_until.ensures

pub returns-then-left-eq0-clause-none : goal.returns-then-left-eq0-clause-none
returns-then-left-eq0-clause-none c searched line lawful have =
    none_left searched line c.args.table.now c.args.kept.now.stops.items (length c.args.kept.now.ways.items) c.args.until c.args.left c.requires.stops
    c.requires.left c.requires.later (have c.if-not-each_has_stop.false) (omega (arith, c.if-left-eq0.true))

pub returns-then-last-until-clause-none : goal.returns-then-last-until-clause-none
returns-then-last-until-clause-none c searched line lawful have =
    let stops = c.args.kept.now.stops.items in
    let some = c.if-left-eq0.false in
    let low = c.requires.left in
    none_after_last searched line c.args.table.now stops (length c.args.kept.now.ways.items) c.args.until c.args.left c.requires.stops low c.requires.later
    (have c.if-not-each_has_stop.false) c.index.result.now (omega (arith, some))
    (get_or_read stops (c.args.left - 1) c.index.result.now (omega (arith, some, low)) c.index.ensures (record { index = 0; first = 0; end = 0 }))
