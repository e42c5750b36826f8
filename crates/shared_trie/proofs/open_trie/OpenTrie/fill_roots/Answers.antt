-- The root of a phase without forms has the empty row.
use Rattle.std.proofs.Common.{◌∙◌, ◌++◌, ◌∷◌, [], ℕ, List, refl, sym, ap, subst}
use Rattle.lexicon_definitions.specs.Tries.{Row}
use Rattle.shared_trie.specs.Growth.{Grows, HasRow}
use Rattle.shared_trie.specs.Interned.{row_of_list}
use Rattle.shared_trie.proofs.EndedForms.{empty_may, phase_filled}
use Rattle.shared_trie.proofs.open_trie.OpenTrie.fill_roots.Goals as goal

pub intern-requires-clause-row : goal.intern-requires-clause-row
intern-requires-clause-row c = empty_may c.args.told.now.value.0 c.args.told.now.value.1 c.loop.counter c.loop.self c.loop.invariant

pub loop-preserved : goal.loop-preserved
loop-preserved c =
    let old = c.loop.self in
    let made = c.in_ok-root.ensures in
    let pushed = c.in_ok-push_root.ensures in
    let row = row_of_list old.trie.lists 0 [] in
    phase_filled c.args.told.now.value.0 c.args.told.now.value.1 c.loop.counter old _ c.in_ok-root.root c.loop.invariant refl refl refl refl
    pushed.trie (pushed.lists ∙ made.lists) (pushed.roots ∙ ap (λ (rs : List ℕ). rs ++ c.in_ok-root.root ∷ []) made.roots)
    (subst (Grows 1 old.trie.rows) (sym pushed.rows) made.grown) (subst (λ (rs : List Row). HasRow rs row c.in_ok-root.root) (sym pushed.rows) made.ok)
