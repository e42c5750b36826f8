-- The sets that were there are empty, and so are those that are added (`EmptiedSets`); and there are as many as the table has.
use Rattle.std.proofs.Common.{◌≡◌, ℕ, ◌+◌, ◌*◌, List, length, refl, ap, subst, ◌∙◌, arith}
use Rattle.text_definitions.specs.Lines.{Line}
use Rattle.lexicon_definitions.specs.Leads.{Lead, leads_of}
use Rattle.summary_chart.specs.Tables.{AreEntrances, width_over}
use Rattle.summary_chart.proofs.FilledSets.{none_marked}
use Rattle.summary_chart.proofs.EmptiedSets.{resized_none, resized_zero}
use Rattle.summary_chart.proofs.table.Table.emptied.Goals as goal

-- a product of numbers that are the same
same_product : (count rows letters columns width : ℕ) → count ≡ (rows + 1) * columns → rows ≡ letters → columns ≡ width → count ≡ (letters + 1) * width
same_product count rows letters columns width is same_rows same_columns = cc

pub returns-clause-is_table : goal.returns-clause-is_table
returns-clause-is_table c =
    let leads = leads_of c.args.rules.now.rules in
    let old = c.empty_sets.new.self in
    let sets = c.resize.new.self in
    let filled = c.resize-2.new.self in
    let entrances = subst (λ (l : List Lead). AreEntrances (length l) c.in_ok-entrances.entrances.items) c.leads.ensures c.in_ok-entrances.ensures in
    let as_many = c.in_ok-resize.ensures.len in
    let words = c.in_ok-resize-2.ensures.len in
    let letters : length c.as_slice.result.now ≡ length c.args.line.now.letters = ap length c.as_slice.ensures.value ∙ ap (λ (l : Line). length l.letters) c.line.view_is in
    let columns : c.len.result ≡ width_over (length leads) = omega (arith, c.len.ensures, entrances.width, c.in_ok-entrances.entrances.ok) in
    let count : length sets.items ≡ (length c.as_slice.result.now + 1) * c.len.result = omega (arith, as_many, sets.ok) in
    let none = resized_none old.sets.items sets.items c.empty.result c.empty.ensures.none c.empty_sets.ensures.empty
    (λ index before below. c.in_ok-resize.ensures.by_index.0 index (record { bits = 0 }) (omega (arith, below, as_many, sets.ok)) (omega (arith, before, old.sets.ok)))
    (λ index after below. c.in_ok-resize.ensures.by_index.1 index (record { bits = 0 }) refl (omega (arith, after, old.sets.ok)) (omega (arith, below, as_many, sets.ok))) in
    let zero = resized_zero old.filled.items filled.items c.empty_sets.ensures.filled
    (λ word before below. c.in_ok-resize-2.ensures.by_index.0 word 0 (omega (arith, below, words, filled.ok)) (omega (arith, before, old.filled.ok)))
    (λ word after below. c.in_ok-resize-2.ensures.by_index.1 word 0 refl (omega (arith, after, old.filled.ok)) (omega (arith, below, words, filled.ok))) in
    record {
      entrances = entrances;
      count = same_product (length sets.items) (length c.as_slice.result.now) (length c.args.line.now.letters) c.len.result (width_over (length leads)) count
          letters columns;
      bits = record {
        count = omega (arith, words, count, filled.ok);
        marked = none_marked sets.items filled.items none zero;
      };
    }

pub returns-clause-empty : goal.returns-clause-empty
returns-clause-empty c =
    let old = c.empty_sets.new.self in
    let sets = c.resize.new.self in
    let as_many = c.in_ok-resize.ensures.len in
    resized_none old.sets.items sets.items c.empty.result c.empty.ensures.none c.empty_sets.ensures.empty
    (λ index before below. c.in_ok-resize.ensures.by_index.0 index (record { bits = 0 }) (omega (arith, below, as_many, sets.ok)) (omega (arith, before, old.sets.ok)))
    (λ index after below. c.in_ok-resize.ensures.by_index.1 index (record { bits = 0 }) refl (omega (arith, after, old.sets.ok)) (omega (arith, below, as_many, sets.ok)))
