-- One root more is marked.
use Rattle.std.proofs.Common.{◌≡◌, ◌<◌, ◌++◌, [], ◌∷◌, ℕ, true, List, length, take, sym, ap, ◌∙◌, subst, arith}
use Rattle.std.specs.Prelude.{Contains, slice_set}
use Rattle.std.proofs.lemmas.List.{length-set, take_all, take_more}
use Rattle.std.proofs.lemmas.List.Elements.{All-contains}
use Rattle.shared_trie.proofs.MarkSteps.{AreJustMarked, IsMarkedToo, mark_set, root_marked, roots_marked}
use Rattle.shared_trie.proofs.canonical_marks.mark_roots.Goals as goal

pub loop-root-preserved : goal.loop-root-preserved
loop-root-preserved c =
    let root = c.root-item.result in
    let marks = c.loop-root.marks.items in
    let roots = c.roots-root-items.result.now in
    let place = c.loop-root.root-index in
    let new = slice_set marks c.number.result true in
    let count = c.loop-root.invariant.count_is in
    let rows = c.args.store.now.rows in
    let there : Contains c.args.store.now.roots root = subst (λ (rs : List ℕ). Contains rs root) c.roots-root-items.ensures.value (place, omega arith, sym c.root-item.is) in
    let within : root < length rows = All-contains (λ root. root < length rows) c.args.store.now.roots root c.roots-root-items.ensures.trie.roots there in
    let set : IsMarkedToo marks root new = subst (λ (k : ℕ). IsMarkedToo marks root (slice_set marks k true)) (sym c.number.ensures) (mark_set marks root (omega (arith, within, count))) in
    subst (λ (rs : List ℕ). AreJustMarked (length rows) rs new) (sym (take_more roots place root (omega arith) ∙ ap (λ (r : ℕ). take place roots ++ r ∷ []) (sym c.root-item.is)))
    (root_marked (length rows) (take place roots) root marks new c.loop-root.invariant (length-set marks c.number.result true) set)

pub returns : goal.returns
returns c =
    let roots = c.roots-root-items.result.now in
    let all : take c.loop-root.root-index roots ≡ c.args.store.now.roots = take_all c.loop-root.root-index roots c.loop-root-test.false ∙ c.roots-root-items.ensures.value in
    roots_marked c.args.store.now c.loop-root.marks.items c.roots-root-items.ensures.trie (subst (λ (rs : List ℕ). AreJustMarked (length c.args.store.now.rows) rs c.loop-root.marks.items) all c.loop-root.invariant)
