-- One node more.
use Rattle.std.proofs.Common.{◌∙◌, ℕ, subst, arith}
use Rattle.lexicon_definitions.specs.Tries.{IsHeight}
use Rattle.shared_trie.proofs.CanonicalSteps.{higher_next}
use Rattle.shared_trie.proofs.HeightLemmas.{ord_max-nat}
use Rattle.shared_trie.proofs.canonical.count_levels.Goals as goal

pub loop-number-preserved : goal.loop-number-preserved
loop-number-preserved c =
    let trie = c.len-number-end.ensures.trie in
    let count = c.len-number-end.ensures.value in
    let low = c.loop-number-test.true in
    higher_next c.args.store.now.rows trie.rows c.loop-number.number c.height.result c.loop-number.levels c.max-levels.result (omega (arith, low, count))
    (subst (λ (node : ℕ). IsHeight c.args.store.now.rows node c.height.result) c.node.ensures c.height.ensures)
    (c.max-levels.ensures ∙ ord_max-nat c.loop-number.levels _) c.loop-number.invariant
