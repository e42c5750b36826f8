-- The row of the empty front becomes the root.
use Rattle.std.proofs.Common.{◌∙◌, ◌++◌, ◌∷◌, [], ℕ, List, sym, ap, subst}
use Rattle.form_tags.specs.Entries.{text_entry}
use Rattle.lexicon_definitions.specs.Tries.{Row}
use Rattle.shared_trie.specs.Growth.{Grows, HasRow}
use Rattle.shared_trie.specs.OpenForms.{row_at}
use Rattle.shared_trie.specs.declared.open_trie.OpenTrie.{OpenTrie}
use Rattle.shared_trie.proofs.EndedForms.{phase_ended}
use Rattle.shared_trie.proofs.open_trie.OpenTrie.end_phase.Goals as goal

pub returns : goal.returns
returns c =
    let old = c.close_to.new.self in
    let closed = c.in_ok-root.ensures in
    let pushed = c.in_ok-push_root.ensures in
    let row = row_at old.trie.lists old.path 0 in
    phase_ended c.args.told.now.value.0 c.args.told.now.value.1 (text_entry c.args.last.now) old _ c.in_ok-root.root c.in_ok-close_to.ensures
    (ap (λ (t : OpenTrie). t.deltas) closed.same) (ap (λ (t : OpenTrie). t.known) closed.same) (ap (λ (t : OpenTrie). t.numbers.items) closed.same)
    pushed.trie (pushed.lists ∙ closed.lists) (pushed.roots ∙ ap (λ (rs : List ℕ). rs ++ c.in_ok-root.root ∷ []) closed.roots)
    (subst (Grows 1 old.trie.rows) (sym pushed.rows) closed.grown) (subst (λ (rs : List Row). HasRow rs row c.in_ok-root.root) (sym pushed.rows) closed.ok) closed.path
