-- The row is another than those before, and its line is the last one.
use Rattle.std.proofs.Common.{◌≡◌, ℕ, List, length, ◌++◌, ◌∷◌, [], refl, ap, ◌∙◌, sym, subst}
use Rattle.std.specs.List.Sorted.{IsStrictlySortedBy}
use Rattle.lexicon_definitions.specs.Tries.{Row, IsRow}
use Rattle.trie_text_definitions.specs.NodeLines.{compare_node_lines, node_lines}
use Rattle.trie_text_definitions.specs.VersionSteps.{Node, Told}
use Rattle.lexicon_file.specs.Rows.{row_read}
use Rattle.lexicon_file.specs.Told.{IsKept}
use Rattle.lexicon_file.proofs.LastLines.{another, kept_with, row_told}
use Rattle.lexicon_file.proofs.told.TrieTold.add_row.Goals as goal

pub push-requires-clause-other : goal.push-requires-clause-other
push-requires-clause-other c =
    let rows = c.self.inside.trie.rows in
    let row = row_read c.args.deltas c.args.children.now in
    let same = ap (λ (t : Told). t.rows) c.self.view_is in
    another rows row c.self.invariant.each (subst (λ (rs : List Row). IsStrictlySortedBy compare_node_lines (node_lines (rs ++ row ∷ []))) (sym same) c.requires.rising)

pub invariant_of-self-2 : goal.invariant_of-self-2
invariant_of-self-2 c =
    let rows = c.self.inside.trie.rows in
    let row = row_read c.args.deltas c.args.children.now in
    let same = ap (λ (t : Told). t.rows) c.self.view_is in
    let line : c.extend_from_slice.new.self.items ≡ c.args.line.now = c.in-Ok.ensures.items ∙ ap (λ (bytes : List ℕ). bytes ++ c.args.line.now) c.clear.ensures.items in
    subst (λ (rs : List Row). IsKept rs c.extend_from_slice.new.self.items) (sym c.in_ok-push.ensures.rows)
    (kept_with rows row c.self.invariant.each (subst (λ (rs : List Row). IsStrictlySortedBy compare_node_lines (node_lines (rs ++ row ∷ []))) (sym same) c.requires.rising)
    c.extend_from_slice.new.self.items (subst (λ (rs : List Row). IsRow rs (length rs) row) (sym same) c.requires.row) (line ∙ c.requires.line))

pub returns : goal.returns
returns c =
    let rows = c.self.inside.trie.rows in
    let row = row_read c.args.deltas c.args.children.now in
    record {
      ok = (λ i. record { last = Node; front = c.self.inside.front; rows = c.in_ok-push.ensures.rows i; nodes = node_lines (c.in_ok-push.ensures.rows i); roots = c.in_ok-push.ensures.roots i })
          ∙ row_told _ c.args.self.now rows row c.self.view_is refl refl;
    }
