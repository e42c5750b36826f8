-- Entries that were sorted are in order: none is below one before it, and the order of entries is total.
use Rattle.std.proofs.Common.{◌≡◌, ◌<◌, Bool, List, [], ◌∷◌, length, map, get_or, true≢false, sym, ◌∙◌, ap, arith}
use Rattle.std.specs.Ordering.{is_lt, ordering_reverse}
use Rattle.std.specs.List.Sorted.{IsSortedBy}
use Rattle.std.specs.declared.cmp.Ordering.TheVariants.{Greater}
use Rattle.std.proofs.lemmas.List.{get_or-map, length-map}
use Rattle.std.proofs.lemmas.List.MinMax.{ranks_by}
use Rattle.std.proofs.lemmas.List.Sorted.{sorted_far}
use Rattle.lexicon_text_definitions.specs.FileContents.{compare_entries}
use Rattle.lexicon_text_definitions.proofs.RisingLines.{lines_total}
use Rattle.form_tags.specs.declared.entry.Entry.{Entry}
use Rattle.form_tags.specs.Entries.{text_entry}
use Rattle.lexicon_builder.specs.Collected.{AreInOrder}

-- the order by which entries are sorted
abbrev pub is_below : Entry → Entry → Bool
is_below left right = is_lt (compare_entries (text_entry left) (text_entry right))

pub in_order : (entries : List Entry) → IsSortedBy is_below entries → AreInOrder (map text_entry entries)
in_order [] sorted i j d less below e = omega (arith, below)
in_order (first ∷ rest) sorted i j d less below e =
    let entries : List Entry = first ∷ rest in
    let long = length-map entries text_entry in
    let low : j < length entries = omega (arith, below, long) in
    let far = sorted_far is_below (ranks_by lines_total text_entry) entries sorted i j first (omega (arith, less)) low in
    let left = text_entry (get_or entries i first) in
    let right = text_entry (get_or entries j first) in
    let above : compare_entries left right ≡ Greater =
    (λ k. compare_entries (sym (get_or-map text_entry entries i first d (omega (arith, less, low))) k) (sym (get_or-map text_entry entries j first d low) k)) ∙ e in
    true≢false (sym (ap is_lt (lines_total.antisymm right left ∙ ap ordering_reverse above)) ∙ far)
