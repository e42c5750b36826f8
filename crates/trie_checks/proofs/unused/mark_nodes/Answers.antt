-- one node more
use Rattle.std.proofs.Common.{ℕ, ◌<◌, ◌↔◌, ◌⊎◌, List, length, take, set, true, arith}
use Rattle.std.specs.Prelude.{Contains}
use Rattle.trie_checks.specs.Marks.{IsMarked}
use Rattle.trie_checks.proofs.OneMore.{one_taken, all_taken}
use Rattle.trie_checks.proofs.MarkSteps.{node_marked}
use Rattle.trie_checks.proofs.unused.mark_nodes.Goals as goal

pub loop-node-preserved : goal.loop-node-preserved
loop-node-preserved c node =
    let nodes = c.args.nodes.now in
    let k = c.loop-node.node-index in
    let item = c.node-item.result in
    let used = c.loop-node.used in
    let low : item < length used = let l = c.requires k item c.loop-node-test.true in let same = c.node-item.is in omega (arith, l, same, c.loop-node.auto.used) in
    one_taken (λ (xs : List ℕ). IsMarked (set used c.number.result true) node ↔ (IsMarked c.args.used.now node ⊎ Contains xs node)) nodes k item c.loop-node-test.true c.node-item.is
    (node_marked c.args.used.now used (take k nodes) item c.number.result c.number.ensures low node (c.loop-node.invariant node))

pub returns : goal.returns
returns c node =
    all_taken (λ (xs : List ℕ). IsMarked c.loop-node.used node ↔ (IsMarked c.args.used.now node ⊎ Contains xs node)) c.args.nodes.now c.loop-node.node-index c.loop-node-test.false (c.loop-node.invariant node)
