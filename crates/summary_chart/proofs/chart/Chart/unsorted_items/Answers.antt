-- At the start there is nothing, each index adds the items of its places, no place stands where the sets are empty, and at the end those
-- of all places are there (`TableItems`).
use Rattle.std.proofs.Common.{◌≡◌, ◌+◌, ◌<◌, ℕ, length, sym, ap, subst, arith}
use Rattle.summary_chart.specs.declared.table.Table.{Table}
use Rattle.summary_chart.specs.PlaceWays.{ChartValue, IsChartOf}
use Rattle.summary_chart.specs.Spreading.{leads_in}
use Rattle.summary_chart.specs.Summaries.{AddsItems, HasItemsBefore, IsItemFrom}
use Rattle.summary_chart.specs.Tables.{set_of}
use Rattle.summary_chart.proofs.TableItems.{no_items, items_more, items_on, none_in_empty}
use Rattle.summary_chart.proofs.SummarySteps.{place_and_skip, places_within}
use Rattle.summary_chart.proofs.chart.Chart.unsorted_items.Goals as goal

pub loop-index-init : goal.loop-index-init
loop-index-init g c =
    let searched = c.args.lexicon.now in
    let line = c.args.line.now in
    let choices = c.args.choices.now in
    let table = c.self.inside.table in
    let chart = subst (IsChartOf searched line choices) (sym c.self.view_is) c.requires.chart in
    let first = c.next_filled-index.result in
    let empty = c.next_filled-index.ensures in
    let items = c.new-collected.result.items.items in
    record {
      items = items_on searched line choices table chart.table.lawful 0 first items (omega arith)
          (none_in_empty searched line choices table chart.table.lawful 0 first empty)
          (no_items searched line choices table chart.table items c.new-collected.ensures.none);
      collected = c.new-collected.ensures.collected searched.lexicon.rules;
      within = empty.within;
      spent = λ most few. omega arith;
    }

pub collect_from-requires-clause-there : goal.collect_from-requires-clause-there
collect_from-requires-clause-there g c =
    subst (λ (t : Table). c.loop-index.index < length t.sets.items) (ap (λ (v : ChartValue). v.table) c.self.view_is)
    (omega (arith, c.loop-index-test.true, c.len.ensures, c.self.inside.table.sets.ok))

pub collect_from-requires-clause-indexed : goal.collect_from-requires-clause-indexed
collect_from-requires-clause-indexed g c =
    let searched = c.args.lexicon.now in
    let line = c.args.line.now in
    let chart = subst (IsChartOf searched line c.args.choices.now) (sym c.self.view_is) c.requires.chart in
    c.place-at.ensures (leads_in searched) (length line.letters) chart.table.lawful

pub loop-index-preserved : goal.loop-index-preserved
loop-index-preserved g c =
    let searched = c.args.lexicon.now in
    let line = c.args.line.now in
    let choices = c.args.choices.now in
    let table = c.self.inside.table in
    let chart = subst (IsChartOf searched line choices) (sym c.self.view_is) c.requires.chart in
    let index = c.loop-index.index in
    let inv = c.loop-index.invariant in
    let next = c.next_filled-index-in-loop-index.result in
    let empty = c.next_filled-index-in-loop-index.ensures in
    let at = c.place-at.result.0 in
    let entrance = c.place-at.result.1 in
    let old = c.loop-index.collected.items.items in
    let new = c.collect_from.new.collected.items.items in
    let indexed = c.place-at.ensures (leads_in searched) (length line.letters) chart.table.lawful in
    let adds : AddsItems (IsItemFrom searched line choices table at entrance (set_of table index)) old new =
    subst (λ (t : Table). AddsItems (IsItemFrom searched line choices t at entrance (set_of t index)) old new)
    (sym (ap (λ (v : ChartValue). v.table) c.self.view_is)) c.in_ok-collect_from.ensures.adds in
    record {
      items = items_on searched line choices table chart.table.lawful (index + 1) next new empty.rises
          (none_in_empty searched line choices table chart.table.lawful (index + 1) next empty)
          (items_more searched line choices table chart.table.lawful index at entrance old new indexed inv.items adds);
      collected = c.in_ok-collect_from.ensures.collected;
      within = empty.within;
      spent = λ most few. place_and_skip searched line most index next c.args.steps.now c.loop-index.steps c.collect_from.new.steps empty.rises (inv.spent most few)
          (c.collect_from.ensures.steps most few);
    }

pub returns-in_err-collect_from-clause-steps : goal.returns-in_err-collect_from-clause-steps
returns-in_err-collect_from-clause-steps g c most few =
    let searched = c.args.lexicon.now in
    let line = c.args.line.now in
    let table = c.self.inside.table in
    let chart = subst (IsChartOf searched line c.args.choices.now) (sym c.self.view_is) c.requires.chart in
    let index = c.loop-index.index in
    let inv = c.loop-index.invariant in
    places_within searched line most (index + 1) c.args.steps.now c.collect_from.new.steps
    (omega (arith, c.loop-index-test.true, c.len.ensures, table.sets.ok, chart.table.lawful.count))
    (place_and_skip searched line most index (index + 1) c.args.steps.now c.loop-index.steps c.collect_from.new.steps (omega arith) (inv.spent most few)
    (c.collect_from.ensures.steps most few))

pub returns-clause-items : goal.returns-clause-items
returns-clause-items g c =
    let searched = c.args.lexicon.now in
    let line = c.args.line.now in
    let choices = c.args.choices.now in
    let table = c.self.inside.table in
    let inv = c.loop-index.invariant in
    let all : c.loop-index.index ≡ length table.sets.items = omega (arith, c.loop-index-test.false, c.len.ensures, table.sets.ok, inv.within) in
    subst (λ (t : Table). HasItemsBefore searched line choices t (length t.sets.items) c.loop-index.collected.items.items)
    (ap (λ (v : ChartValue). v.table) c.self.view_is)
    (subst (λ (index : ℕ). HasItemsBefore searched line choices table index c.loop-index.collected.items.items) all inv.items)
