-- one child more
use Rattle.std.proofs.Common.{ℕ, ◌-◌, List, take, get_or, min, ◌∙◌, ap}
use Rattle.trie_checks.specs.Bounds.{IsLeastEnd}
use Rattle.trie_checks.proofs.OneMore.{one_taken, all_taken, least_next}
use Rattle.trie_checks.proofs.depths.end_below.Goals as goal

pub loop-child-preserved : goal.loop-child-preserved
loop-child-preserved c =
    let children = c.args.children.now in
    let ends = c.args.ends.now in
    let k = c.loop-child.child-index in
    let child = c.loop-child-item.result in
    let end = c.loop-child.end in
    one_taken (λ (xs : List (ℕ × ℕ)). IsLeastEnd (λ (x : ℕ × ℕ). get_or ends x.1 0 - 1) xs c.min-end.result) children k child c.loop-child-test.true c.loop-child-item.is
    (least_next (λ (x : ℕ × ℕ). get_or ends x.1 0 - 1) (take k children) child end c.min-end.result
    (c.min-end.ensures ∙ ap (λ n. min end n) (c.saturating_sub.ensures ∙ ap (λ n. get_or ends n 0 - 1) c.number.ensures)) c.loop-child.invariant)

pub returns : goal.returns
returns c =
    all_taken (λ (xs : List (ℕ × ℕ)). IsLeastEnd (λ (x : ℕ × ℕ). get_or c.args.ends.now x.1 0 - 1) xs c.loop-child.end) c.args.children.now c.loop-child.child-index c.loop-child-test.false c.loop-child.invariant
