-- one child more
use Rattle.std.proofs.Common.{ℕ, ◌<◌, ◌↔◌, ◌⊎◌, List, length, take, set, true, ap, arith}
use Rattle.trie_checks.specs.Marks.{IsMarked, LeadTo}
use Rattle.trie_checks.proofs.OneMore.{one_taken, all_taken}
use Rattle.trie_checks.proofs.MarkSteps.{child_marked}
use Rattle.trie_checks.proofs.unused.mark_children.Goals as goal

pub loop-child-preserved : goal.loop-child-preserved
loop-child-preserved c node =
    let children = c.args.children.now in
    let k = c.loop-child.child-index in
    let child = c.loop-child-item.result in
    let used = c.loop-child.used in
    let low : child.1 < length used =
    let l = c.requires k child c.loop-child-test.true in let same = ap (λ (x : ℕ × ℕ). x.1) c.loop-child-item.is in omega (arith, l, same, c.loop-child.auto.used) in
    one_taken (λ (xs : List (ℕ × ℕ)). IsMarked (set used c.number.result true) node ↔ (IsMarked c.args.used.now node ⊎ LeadTo xs node)) children k child c.loop-child-test.true c.loop-child-item.is
    (child_marked c.args.used.now used (take k children) child c.number.result c.number.ensures low node (c.loop-child.invariant node))

pub returns : goal.returns
returns c node =
    all_taken (λ (xs : List (ℕ × ℕ)). IsMarked c.loop-child.used node ↔ (IsMarked c.args.used.now node ⊎ LeadTo xs node)) c.args.children.now c.loop-child.child-index c.loop-child-test.false (c.loop-child.invariant node)
