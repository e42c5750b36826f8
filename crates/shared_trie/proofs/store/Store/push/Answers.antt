-- The row goes last, with its height.
use Rattle.std.proofs.Common.{◌≡◌, ℕ, ◌++◌, ◌∷◌, [], List, length, map, ◌∙◌, ap, subst, arith}
use Rattle.form_tags.specs.Analyses.{text_delta}
use Rattle.lexicon_definitions.specs.Tries.{Row}
use Rattle.shared_trie.specs.Heights.{IsHeightAbove}
use Rattle.shared_trie.proofs.ToldRows.{parts_with, parts_same}
use Rattle.shared_trie.proofs.store.Store.push.Goals as goal

pub invariant_of-self-2 : goal.invariant_of-self-2
invariant_of-self-2 c =
    let row : Row = record { deltas = map text_delta c.args.deltas.items; children = c.args.children.now } in
    let heights = c.self.inside.heights.items in
    let height = c.height_above-height.result in
    let as_read = c.as_slice.ensures.value in
    let above : IsHeightAbove heights row.children height = subst (λ (hs : List ℕ). IsHeightAbove hs row.children height) as_read c.height_above-height.ensures.value in
    let total = ap (λ (hs : List ℕ). length hs) as_read in
    let low = c.height_above-height.ensures.low in
    let pushed : c.push-2.new.self.items ≡ heights ++ height ∷ [] = c.in-Ok.ensures.items ∙ ap (λ (hs : List ℕ). hs ++ height ∷ []) c.in_ok-reserve.ensures.items in
    parts_same c.push.new.self (c.self.inside.table ++ row ∷ []) c.push-2.new.self.items (heights ++ height ∷ []) c.self.inside.roots.items c.in_ok-push.ensures.ok pushed
    (parts_with c.args.self.now c.self.inside.table c.self.inside.roots.items heights row height c.self.view_is c.self.invariant c.requires.row c.requires.other c.requires.room above (omega (arith, low, total)))
