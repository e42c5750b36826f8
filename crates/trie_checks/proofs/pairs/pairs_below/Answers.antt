-- one child more
use Rattle.std.proofs.Common.{◌≡◌, ℕ, ◌+◌, List, take, get_or, min, ◌∙◌, ap}
use Rattle.std.specs.Prelude.{sum_by}
use Rattle.trie_checks.proofs.OneMore.{one_taken, all_taken}
use Rattle.trie_checks.proofs.PairCounts.{stopped_next}
use Rattle.trie_checks.proofs.pairs.pairs_below.Goals as goal

pub loop-child-preserved : goal.loop-child-preserved
loop-child-preserved c =
    let children = c.args.children.now in
    let counts = c.args.counts.now in
    let k = c.loop-child.child-index in
    let child = c.loop-child-item.result in
    let next = c.min-sum-in-loop-child.result in
    let count : ℕ × ℕ → ℕ = λ x. get_or counts x.1 0 in
    let read : get_or counts c.number.result 0 ≡ count child = ap (λ n. get_or counts n 0) c.number.ensures in
    one_taken (λ (xs : List (ℕ × ℕ)). next ≡ min (c.args.own + sum_by count xs) 600001) children k child c.loop-child-test.true c.loop-child-item.is
    (stopped_next count (take k children) child c.args.own c.loop-child.sum c.saturating_add.result next c.loop-child.invariant
    (c.saturating_add.ensures ∙ ap (λ n. min (c.loop-child.sum + n) 4294967295) read) c.min-sum-in-loop-child.ensures)

pub returns : goal.returns
returns c =
    all_taken (λ (xs : List (ℕ × ℕ)). c.loop-child.sum ≡ min (c.args.own + sum_by (λ (x : ℕ × ℕ). get_or c.args.counts.now x.1 0) xs) 600001) c.args.children.now c.loop-child.child-index c.loop-child-test.false c.loop-child.invariant
