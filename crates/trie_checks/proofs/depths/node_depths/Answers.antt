-- one node more, whose children are known since they have smaller numbers
use Rattle.std.proofs.Common.{◌≡◌, ℕ, ◌-◌, ◌<◌, List, [], ◌∷◌, ◌++◌, length, map, get_or, ◌∙◌, ap, subst, arith}
use Rattle.lexicon_definitions.specs.Deltas.{Delta as TextDelta}
use Rattle.lexicon_definitions.specs.Tries.{row_of}
use Rattle.form_tags.specs.Analyses.{text_delta}
use Rattle.trie_checks.specs.Bounds.{IsGreatest, IsLeastEnd}
use Rattle.trie_checks.specs.NodeDepths.{letters_needed, letters_end}
use Rattle.trie_checks.proofs.DepthSteps.{depths_next}
use Rattle.trie_checks.proofs.depths.node_depths.Goals as goal

pub loop-number-preserved : goal.loop-number-preserved
loop-number-preserved c =
    let rows = c.args.store.now.rows in
    let node = c.loop-number.number in
    let least = c.loop-number.least.items in
    let ends = c.loop-number.ends.items in
    let at : c.node-node.result ≡ node = c.node-node.ensures in
    let low : node < length rows = omega (arith, c.loop-number-test.true, c.len.ensures.value, c.len-number-end.ensures.value) in
    let children : c.children-children.result.now ≡ (row_of rows node).children = c.children-children.ensures.value ∙ ap (λ n. (row_of rows n).children) at in
    let deltas : map text_delta c.deltas-deltas.result.now ≡ (row_of rows node).deltas = c.deltas-deltas.ensures ∙ ap (λ n. (row_of rows n).deltas) at in
    let from = c.least_below-from.result in
    let end = c.end_below-end.result in
    let pushed : c.push.new.self.items ≡ least ++ c.max.result ∷ [] = c.in_ok-push.ensures.items in
    let pushed_end : c.push-in-loop-number.new.self.items ≡ ends ++ c.min.result ∷ [] = c.in_ok-push-2.ensures.items in
    depths_next rows c.len.ensures.trie.rows node low least ends c.push.new.self.items c.push-in-loop-number.new.self.items from c.least_of.result end c.end_of.result c.max.result c.min.result
    c.loop-number.invariant
    (subst (λ (ls : List ℕ). IsGreatest (λ (child : ℕ × ℕ). get_or ls child.1 0 - 1) (row_of rows node).children from) c.as_slice.ensures.value
    (subst (λ (cs : List (ℕ × ℕ)). IsGreatest (λ (child : ℕ × ℕ). get_or c.as_slice.result.now child.1 0 - 1) cs from) children c.least_below-from.ensures))
    (subst (λ (ds : List TextDelta). IsGreatest letters_needed ds c.least_of.result) deltas c.least_of.ensures)
    (subst (λ (ls : List ℕ). IsLeastEnd (λ (child : ℕ × ℕ). get_or ls child.1 0 - 1) (row_of rows node).children end) c.as_slice-in-loop-number.ensures.value
    (subst (λ (cs : List (ℕ × ℕ)). IsLeastEnd (λ (child : ℕ × ℕ). get_or c.as_slice-in-loop-number.result.now child.1 0 - 1) cs end) children c.end_below-end.ensures))
    (subst (λ (ds : List TextDelta). IsLeastEnd letters_end ds c.end_of.result) deltas c.end_of.ensures)
    c.max.ensures c.min.ensures pushed pushed_end
