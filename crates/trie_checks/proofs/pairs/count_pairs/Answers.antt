-- one node more, whose children are known since they have smaller numbers; and the sum of the roots
use Rattle.std.proofs.Common.{◌≡◌, ℕ, ◌+◌, ◌<◌, List, [], ◌∷◌, ◌++◌, length, map, get_or, min, sym, ◌∙◌, ap, subst, arith}
use Rattle.std.specs.Prelude.{sum_by}
use Rattle.std.proofs.lemmas.List.{length-map}
use Rattle.lexicon_definitions.specs.Tries.{row_of}
use Rattle.form_tags.specs.Analyses.{text_delta}
use Rattle.trie_checks.proofs.PairCounts.{AreCounts, counts_next, counted}
use Rattle.trie_checks.proofs.pairs.count_pairs.Goals as goal

pub loop-number-preserved : goal.loop-number-preserved
loop-number-preserved c =
    let rows = c.args.store.now.rows in
    let node = c.loop-number.number in
    let counts = c.loop-number.counts.items in
    let own = length c.deltas.result.now in
    let new = c.pairs_below-count.result in
    let at : c.node-node.result ≡ node = c.node-node.ensures in
    let low : node < length rows = omega (arith, c.loop-number-test.true, c.len-number-end.ensures.value) in
    let children : c.children-children.result.now ≡ (row_of rows node).children = c.children-children.ensures.value ∙ ap (λ n. (row_of rows n).children) at in
    let deltas : map text_delta c.deltas.result.now ≡ (row_of rows node).deltas = c.deltas.ensures ∙ ap (λ n. (row_of rows n).deltas) at in
    let pushed : c.push.new.self.items ≡ counts ++ new ∷ [] = c.in_ok-push.ensures.items in
    subst (AreCounts rows 600001 (node + 1)) (sym pushed) (counts_next rows 600001 node own new counts c.len.ensures.trie.rows low c.loop-number.invariant
    (sym (length-map c.deltas.result.now text_delta) ∙ ap length deltas)
    (subst (λ (ns : List ℕ). new ≡ min (own + sum_by (λ (child : ℕ × ℕ). get_or ns child.1 0) (row_of rows node).children) 600001) c.as_slice.ensures.value
    (subst (λ (cs : List (ℕ × ℕ)). new ≡ min (own + sum_by (λ (child : ℕ × ℕ). get_or c.as_slice.result.now child.1 0) cs) 600001) children c.pairs_below-count.ensures)))

pub returns : goal.returns
returns c =
    let rows = c.args.store.now.rows in
    let counts = c.loop-number.counts.items in
    let total = c.pairs_of_all.result in
    let all : c.loop-number.number ≡ length rows = omega (arith, c.loop-number-test.false, c.loop-number.auto.number-end, c.len-number-end.ensures.value) in
    record {
      ok = counted c.args.store.now 600001 total counts c.roots.ensures.nodes (subst (λ n. AreCounts rows 600001 n counts) all c.loop-number.invariant)
          (subst (λ (ns : List ℕ). total ≡ min (sum_by (λ root. get_or ns root 0) c.args.store.now.roots) 600001) c.as_slice-2.ensures.value
          (subst (λ (rs : List ℕ). total ≡ min (sum_by (λ root. get_or c.as_slice-2.result.now root 0) rs) 600001) c.roots.ensures.value c.pairs_of_all.ensures));
    }
