-- Each call of the closure answers by the order of entries, which is total.
use Rattle.std.proofs.Common.{◌≡◌, ap, rules}
use Rattle.std.specs.Ordering.{is_lt}
use Rattle.std.proofs.lemmas.Fn.{always_returns_same}
use Rattle.std.proofs.lemmas.List.MinMax.{ranks_by}
use Rattle.lexicon_text_definitions.specs.FileContents.{compare_entries}
use Rattle.lexicon_text_definitions.proofs.RisingLines.{lines_total}
use Rattle.form_tags.specs.Entries.{text_entry}
use Rattle.lexicon_builder.proofs.SortedEntries.{is_below, in_order}
use Rattle.lexicon_builder.proofs.collecting.sort_entries.Goals as goal

pub returns-clause-in_order : goal.returns-clause-in_order
returns-clause-in_order c =
    in_order c.sort_by.new.self.items
    (c.in_ok-sort_by.ensures.sorted is_below (ranks_by lines_total text_entry)
    (always_returns_same _ (λ a r. is_lt r ≡ is_below a.0.now a.1.0.now) _
    (λ a r f k. let same : r ≡ compare_entries (text_entry a.0.now) (text_entry a.1.0.now) = search rules in (ap is_lt same, search rules))))
