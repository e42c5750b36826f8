-- one child more
use Rattle.std.proofs.Common.{ℕ, ◌-◌, List, take, get_or, max, ◌∙◌, ap}
use Rattle.trie_checks.specs.Bounds.{IsGreatest}
use Rattle.trie_checks.proofs.OneMore.{ord_max-nat, one_taken, all_taken, greatest_next}
use Rattle.trie_checks.proofs.depths.least_below.Goals as goal

pub loop-child-preserved : goal.loop-child-preserved
loop-child-preserved c =
    let children = c.args.children.now in
    let least = c.args.least.now in
    let k = c.loop-child.child-index in
    let child = c.loop-child-item.result in
    let most = c.loop-child.most in
    one_taken (λ (xs : List (ℕ × ℕ)). IsGreatest (λ (x : ℕ × ℕ). get_or least x.1 0 - 1) xs c.max-most.result) children k child c.loop-child-test.true c.loop-child-item.is
    (greatest_next (λ (x : ℕ × ℕ). get_or least x.1 0 - 1) (take k children) child most c.max-most.result
    (c.max-most.ensures ∙ ord_max-nat most c.saturating_sub.result ∙ ap (λ n. max most n) (c.saturating_sub.ensures ∙ ap (λ n. get_or least n 0 - 1) c.number.ensures)) c.loop-child.invariant)

pub returns : goal.returns
returns c =
    all_taken (λ (xs : List (ℕ × ℕ)). IsGreatest (λ (x : ℕ × ℕ). get_or c.args.least.now x.1 0 - 1) xs c.loop-child.most) c.args.children.now c.loop-child.child-index c.loop-child-test.false c.loop-child.invariant
