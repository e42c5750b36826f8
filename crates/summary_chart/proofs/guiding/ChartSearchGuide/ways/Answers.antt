-- What is kept at the place's index are the ways from it (`ChartWays`).
use Rattle.std.proofs.Common.{Option, Some, None, sym, subst, MatchOption, IfSome}
use Rattle.summary_chart.specs.PlaceWays.{AreWaysAt, ChartValue, IsChartOf}
use Rattle.summary_chart.proofs.ChartWays.{set_there, all_ways, few_ways}
use Rattle.summary_chart.proofs.guiding.ChartSearchGuide.ways.Goals as goal

if_found : {X : Type 0} (result : Option X) (Nothing : Type 0) (Is Has : X → Type 0) → ((x : X) → Is x → Has x) → MatchOption result Nothing Is → IfSome result Has
if_found None Nothing Is Has has told = tt
if_found (Some x) Nothing Is Has has told = has x told

pub index-index-requires : goal.index-index-requires
index-index-requires g c =
    let searched = c.args._lexicon.now in
    let line = c.args._line.now in
    let choices = c.args._choices.now in
    let chart : ChartValue = record { table = c.self.inside.table; stops = c.self.inside.kept.stops.items; ways = c.self.inside.kept.ways.items } in
    let of = subst (IsChartOf searched line choices) (sym c.self.view_is) c.requires.known in
    set_there searched line choices chart c.args.place.now of c.requires.place

pub returns-clause-ways : goal.returns-clause-ways
returns-clause-ways g c =
    let searched = c.args._lexicon.now in
    let line = c.args._line.now in
    let choices = c.args._choices.now in
    let chart : ChartValue = record { table = c.self.inside.table; stops = c.self.inside.kept.stops.items; ways = c.self.inside.kept.ways.items } in
    let of = subst (IsChartOf searched line choices) (sym c.self.view_is) c.requires.known in
    if_found c.at.result _ (λ ways. AreWaysAt chart.stops chart.ways c.index-index.result ways.now) _ (λ ways are.
    all_ways searched line choices chart c.args.place.now of c.requires.place c.index-index.result ways.now c.index-index.ensures.entrance c.index-index.ensures.index are
    c.requires.searched c.requires.reached) c.at.ensures.found

pub returns-clause-few : goal.returns-clause-few
returns-clause-few g c =
    let searched = c.args._lexicon.now in
    let line = c.args._line.now in
    let choices = c.args._choices.now in
    let chart : ChartValue = record { table = c.self.inside.table; stops = c.self.inside.kept.stops.items; ways = c.self.inside.kept.ways.items } in
    let of = subst (IsChartOf searched line choices) (sym c.self.view_is) c.requires.known in
    if_found c.at.result _ (λ ways. AreWaysAt chart.stops chart.ways c.index-index.result ways.now) _ (λ ways are.
    few_ways searched line choices chart c.args.place.now of c.requires.place c.index-index.result ways.now c.index-index.ensures.entrance c.index-index.ensures.index are)
    c.at.ensures.found
