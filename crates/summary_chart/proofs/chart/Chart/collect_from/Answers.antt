-- What is kept at the index are the ways from each place there, and to go over them takes no more steps than to go over all.
use Rattle.std.proofs.Common.{◌<◌, length, sym, ap, subst, arith}
use Rattle.summary_chart.specs.declared.state_set.StateSet.{StateSet}
use Rattle.summary_chart.specs.declared.table.Table.{Table}
use Rattle.summary_chart.specs.PlaceWays.{ChartValue, HasEachKey, IsChartOf}
use Rattle.summary_chart.specs.Spreading.{GoesFurtherBy}
use Rattle.summary_chart.proofs.KeptWays.{keys_found, ways_at}
use Rattle.summary_chart.proofs.TableItems.{read_set}
use Rattle.summary_chart.proofs.SummarySteps.{ways_within}
use Rattle.summary_chart.proofs.chart.Chart.collect_from.Goals as goal

pub collect_ways-requires-clause-ways : goal.collect_ways-requires-clause-ways
collect_ways-requires-clause-ways g c =
    let searched = c.args.site.lexicon.now in
    let line = c.args.site.line.now in
    let choices = c.args.site.choices.now in
    let place = c.args.site.place.now in
    let kept = c.self.inside.kept in
    let chart = subst (IsChartOf searched line choices) (sym c.self.view_is) c.requires.chart in
    (ways_at searched line choices c.args.index place.at place.entrance c.self.inside.table chart.table.lawful c.requires.indexed
    kept.stops.items kept.ways.items c.in-Some.ways.now chart.ways c.in-Some.ensures.found place.state c.requires.site.place).each

pub collect_ways-requires-clause-all : goal.collect_ways-requires-clause-all
collect_ways-requires-clause-all g c =
    let searched = c.args.site.lexicon.now in
    let line = c.args.site.line.now in
    let choices = c.args.site.choices.now in
    let place = c.args.site.place.now in
    let kept = c.self.inside.kept in
    let table = c.self.inside.table in
    let chart = subst (IsChartOf searched line choices) (sym c.self.view_is) c.requires.chart in
    subst (λ (set : StateSet). HasEachKey searched (GoesFurtherBy searched line choices table) place.at place.entrance set c.in-Some.ways.now)
    (read_set table c.args.index c.index-states.result.now
    (subst (λ (t : Table). c.args.index < length t.sets.items) (sym (ap (λ (v : ChartValue). v.table) c.self.view_is)) c.requires.there) c.index-states.ensures)
    (keys_found searched line choices c.args.index place.at place.entrance table chart.table.lawful c.requires.indexed
    kept.stops.items kept.ways.items c.in-Some.ways.now chart.ways c.in-Some.ensures.found)

pub returns-clause-steps : goal.returns-clause-steps
returns-clause-steps g c most few =
    let searched = c.args.site.lexicon.now in
    let line = c.args.site.line.now in
    let choices = c.args.site.choices.now in
    let place = c.args.site.place.now in
    let kept = c.self.inside.kept in
    let chart = subst (IsChartOf searched line choices) (sym c.self.view_is) c.requires.chart in
    let are = ways_at searched line choices c.args.index place.at place.entrance c.self.inside.table chart.table.lawful c.requires.indexed
    kept.stops.items kept.ways.items c.in-Some.ways.now chart.ways c.in-Some.ensures.found place.state c.requires.site.place in
    let less = ways_within searched most (length c.in-Some.ways.now) c.requires.site.searched are.few in
    let spent = c.collect_ways.ensures.steps in
    omega (arith, less, spent)
