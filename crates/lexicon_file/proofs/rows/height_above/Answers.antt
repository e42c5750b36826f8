-- One child more: its height is that of its line.
use Rattle.std.proofs.Common.{◌<◌, ℕ, length, sym, subst, arith}
use Rattle.std.proofs.lemmas.List.Elements.{All-get_or}
use Rattle.lexicon_file.proofs.NodeHeights.{over_next, height_small}
use Rattle.lexicon_file.proofs.rows.height_above.Goals as goal

pub overflow_add-height : goal.overflow_add-height
overflow_add-height c =
    let rows = c.args.trie.now.rows in
    let child = c.child-item.result in
    let low : child.1 < length rows = subst (λ (c : ℕ × ℕ). c.1 < length rows) (sym c.child-item.is) (All-get_or (λ (c : ℕ × ℕ). c.1 < length rows) c.args.children.now c.loop-child.child-index child c.loop-child-test.true c.requires.known) in
    let small = height_small rows child.1 c.height.result c.requires.rows low c.height.ensures in
    let room = c.requires.room in
    omega (arith, small, low, room)

pub loop-child-preserved : goal.loop-child-preserved
loop-child-preserved c =
    over_next c.args.trie.now.rows c.args.children.now c.loop-child.child-index c.child-item.result c.loop-child.height c.height.result c.max-height.result c.requires.rows c.requires.known
    c.loop-child-test.true c.child-item.is c.loop-child.invariant c.height.ensures c.max-height.ensures
