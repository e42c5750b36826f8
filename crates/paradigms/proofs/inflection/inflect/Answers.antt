-- Each row has its entry; at the end all rows have theirs.
use Rattle.std.proofs.Common.{◌<◌, ◌≤◌, length, map, arith, subst}
use Rattle.std.specs.List.{AllZip}
use Rattle.std.proofs.lemmas.List.{length-map, take_all}
use Rattle.form_tags.specs.Entries.{text_entry}
use Rattle.morphology_definitions.specs.Inflection.{IsInflected}
use Rattle.paradigms.specs.Rows.{text_row}
use Rattle.paradigms.proofs.InflectionLemmas.{cut_fits, entry_more, zip-mapped}
use Rattle.paradigms.proofs.inflection.inflect.Goals as goal

pub inflect_by-requires : goal.inflect_by-requires
inflect_by-requires c =
    let below : c.loop-row.row-index < length c.args.rows.now = c.loop-row-test.true in
    let same = length-map c.args.rows.now text_row in
    let inside : c.loop-row.row-index < length (map text_row c.args.rows.now) = omega (arith, below, same) in
    cut_fits c.args.stem.now.letters c.args.rows.now c.loop-row.row-index c.row-item.result c.requires inside below c.row-item.is

pub loop-row-preserved : goal.loop-row-preserved
loop-row-preserved c =
    entry_more c.args.stem.now.letters c.args.rows.now c.loop-row.entries.items c.push.new.self.items c.loop-row.row-index c.row-item.result c.in_ok-inflect_by.field-0 c.loop-row.invariant
    c.loop-row-test.true c.row-item.is c.in_ok-inflect_by.ensures c.in_ok-push.ensures.items

pub returns : goal.returns
returns c =
    let past : length c.args.rows.now ≤ c.loop-row.row-index = omega (arith, c.loop-row-test.false) in
    let whole = take_all c.loop-row.row-index c.args.rows.now past in
    record {
      ok = zip-mapped (λ row entry. IsInflected row c.args.stem.now.letters entry) text_row text_entry c.args.rows.now c.loop-row.entries.items
          (subst (λ rows. AllZip (λ row entry. IsInflected (text_row row) c.args.stem.now.letters (text_entry entry)) rows c.loop-row.entries.items) whole c.loop-row.invariant);
    }
