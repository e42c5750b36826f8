-- Where no state goes further, nothing is added; else the way's item is.
use Rattle.std.proofs.Common.{refl}
use Rattle.std.proofs.lemmas.Result.{on_ok_weaker}
use Rattle.search_frames.specs.WaysFrom.{key_of_way}
use Rattle.summary_chart.specs.Summaries.{item_with}
use Rattle.summary_chart.proofs.CollectedItems.{one_added}
use Rattle.summary_chart.proofs.collecting.collect_way.Goals as goal

pub returns-clause-adds : goal.returns-clause-adds
returns-clause-adds g c =
    let searched = c.args.site.lexicon.now in
    let line = c.args.site.line.now in
    let place = c.args.site.place.now in
    let key = key_of_way c.args.way.now in
    on_ok_weaker c.put_item.result
    (λ put. one_added searched line c.args.site.choices.now c.args.standing.table.now place.at place.entrance c.args.standing.states key
    c.states_by_way.result c.states_by_way.ensures c.args.collected.now.items.items c.put_item.new.collected.items.items
    (item_with searched line place.at place.entrance key) c.if-is_empty.ensures refl put)
    c.put_item.ensures.items
