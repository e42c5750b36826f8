-- Where no state goes further, nothing is added; else the step's item is.
use Rattle.std.proofs.Common.{refl, Result, Ok, Err}
use Rattle.std.specs.Prelude.{OnOk}
use Rattle.std.proofs.lemmas.Result.{on_ok_weaker}
use Rattle.derivation.specs.Steps.{key_meant}
use Rattle.summary_chart.specs.Summaries.{item_with}
use Rattle.summary_chart.proofs.CollectedItems.{none_added, one_added, seen_more}
use Rattle.summary_chart.proofs.collecting.collect_key.Goals as goal

-- what follows from both, where it went well
both_ok : {A E P Q R : Type 0} (r : Result A E) → (P → Q → R) → OnOk r P → OnOk r Q → OnOk r R
both_ok (Ok v) f p q = f p q
both_ok (Err e) f p q = tt

pub returns-then-is_empty-clause-adds : goal.returns-then-is_empty-clause-adds
returns-then-is_empty-clause-adds g c =
    let place = c.args.here.site.place.now in
    none_added c.args.here.site.lexicon.now c.args.here.site.line.now c.args.here.site.choices.now c.args.standing.table.now place.at place.entrance c.args.standing.states (key_meant c.args.key)
    c.states_by_key.result c.states_by_key.ensures c.args.collected.now.items.items c.if-is_empty.ensures

pub returns-clause-adds : goal.returns-clause-adds
returns-clause-adds g c =
    let searched = c.args.here.site.lexicon.now in
    let line = c.args.here.site.line.now in
    let place = c.args.here.site.place.now in
    let key = key_meant c.args.key in
    on_ok_weaker c.put_item.result
    (λ put. one_added searched line c.args.here.site.choices.now c.args.standing.table.now place.at place.entrance c.args.standing.states key
    c.states_by_key.result c.states_by_key.ensures c.args.collected.now.items.items c.put_item.new.collected.items.items
    (item_with searched line place.at place.entrance key) c.if-is_empty.ensures refl put)
    c.put_item.ensures.items

pub returns-clause-seen : goal.returns-clause-seen
returns-clause-seen g c =
    let searched = c.args.here.site.lexicon.now in
    let line = c.args.here.site.line.now in
    let place = c.args.here.site.place.now in
    let key = key_meant c.args.key in
    both_ok c.put_item.result
    (λ put made since seen. seen_more searched line place.at place.entrance c.args.key.phase c.args.key.taken since c.args.key.rule c.args.collected.now c.put_item.new.collected
    (item_with searched line place.at place.entrance key) refl put made seen)
    c.put_item.ensures.items c.put_item.ensures.made
