-- The children, the limits and the order are tested one after another.
use Rattle.std.proofs.Common.{sym, ◌∙◌, ap, refl, subst, List, [], ◌∷◌, ◌++◌, length, map}
use Rattle.std.specs.List.Sorted.{IsStrictlySortedBy}
use Rattle.std.proofs.lemmas.Result.{err_from_is_err_and}
use Rattle.form_tags.specs.declared.delta.Delta.{Delta}
use Rattle.form_tags.specs.Analyses.{text_delta}
use Rattle.lexicon_definitions.specs.Tries.{Row, IsRow}
use Rattle.lexicon_definitions.specs.Deltas.{compare_deltas}
use Rattle.trie_text_definitions.specs.LimitedRules.{rises}
use Rattle.trie_text_definitions.specs.NodeLines.{compare_node_lines, node_lines}
use Rattle.trie_text_definitions.specs.VersionSteps.{Told}
use Rattle.lexicon_file.specs.Rows.{row_read}
use Rattle.lexicon_file.proofs.RowAnswers.{children_known, row_is, above_by, lines_rise, not_above}
use Rattle.lexicon_file.proofs.told.TrieTold.take_row.Goals as goal

pub height_above-height-requires-clause-known : goal.height_above-height-requires-clause-known
height_above-height-requires-clause-known c =
    children_known c.self.inside.trie.rows c.args.children.now (sym c.are_children.ensures ∙ c.if-not-are_children.false)

pub returns-in_err-above : goal.returns-in_err-above
returns-in_err-above c =
    let row = row_read c.args.deltas c.args.children.now in
    let p = err_from_is_err_and c.from_residual.result c.from_residual.ensures.1 in
    rw (p.1, p.2)
    (not_above (Unit {0}) _ c.args.self.now c.args.line.now row (map text_delta c.as_slice.result.now) c.height_above-height.result c.compare_last.result c.passes_limits.result c.deltas_rise.result
    c.in_err-above.field-0.0 c.self.view_is refl (ap (map text_delta) c.as_slice.ensures.value) (sym c.are_children.ensures ∙ c.if-not-are_children.false) c.height_above-height.ensures
    c.passes_limits.ensures c.if-passes_limits.false c.compare_last.ensures
    (c.deltas_rise.ensures ∙ ap (λ (ds : List Delta). rises compare_deltas (map text_delta ds)) (c.as_slice-2.ensures.value ∙ sym c.as_slice.ensures.value)) c.in_err-above.ensures)

pub add_row-requires-clause-row : goal.add_row-requires-clause-row
add_row-requires-clause-row c =
    let row = row_read c.args.deltas c.args.children.now in
    let above = above_by c.compare_last.result c.deltas_rise.result c.args.self.now (c.in_ok-above.ensures c.args.self.now) in
    let rising = ap (λ (ds : List Delta). rises compare_deltas (map text_delta ds)) (sym c.as_slice-2.ensures.value) ∙ sym c.deltas_rise.ensures ∙ above.1 in
    subst (λ (rows : List Row). IsRow rows (length rows) row) (ap (λ (t : Told). t.rows) c.self.view_is)
    (row_is c.self.inside.trie.rows row c.requires.letters (sym c.are_children.ensures ∙ c.if-not-are_children.false) rising)

pub add_row-requires-clause-rising : goal.add_row-requires-clause-rising
add_row-requires-clause-rising c =
    let row = row_read c.args.deltas c.args.children.now in
    let above = above_by c.compare_last.result c.deltas_rise.result c.args.self.now (c.in_ok-above.ensures c.args.self.now) in
    subst (λ (rows : List Row). IsStrictlySortedBy compare_node_lines (node_lines (rows ++ row ∷ []))) (ap (λ (t : Told). t.rows) c.self.view_is)
    (lines_rise c.self.inside.trie.rows row c.args.self.now.nodes c.height_above-height.result c.self.inside.line.items c.args.line.now c.self.invariant
    (ap (λ (t : Told). t.nodes) (sym c.self.view_is)) c.height_above-height.ensures c.requires.line (sym above.0 ∙ c.compare_last.ensures))
