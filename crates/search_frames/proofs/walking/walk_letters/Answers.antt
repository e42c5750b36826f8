-- The letter after those so far leads from the node that is reached to its child, or nowhere; then no more letters lead anywhere.
use Rattle.std.proofs.Common.{◌≡◌, ℕ, ◌+◌, ◌<◌, length, take, Some, None, sym, ◌∙◌, ap, arith, length-set}
use Rattle.lexicon_definitions.specs.Tries.{walk}
use Rattle.search_frames.specs.declared.frame.TheConstants.{NODES_OF_FRAME}
use Rattle.search_frames.proofs.WalkLemmas.{walk_next, has_place, walked_below, more_walked}
use Rattle.search_frames.proofs.walking.walk_letters.Goals as goal
use Rattle.search_frames.proofs.walking.walk_letters.Goals.{else-loop-letter-test, then-loop-letter-test+in_default}

pub index_mut-requires-in-loop-letter : goal.index_mut-requires-in-loop-letter
index_mut-requires-in-loop-letter g c =
    let rows = c.args.store.now.rows in
    let low = c.loop-letter-test.true in
    let next = walk_next rows c.args.node c.loop-letter.reached c.args.letters.now c.loop-letter.letter-index c.letter-item.result c.loop-letter.invariant.reached low c.letter-item.is in
    let there = has_place rows c.args.node c.in-Some.child c.args.letters.now (c.loop-letter.letter-index + 1) NODES_OF_FRAME (next ∙ sym c.in-Some.ensures.value) (omega (arith, low)) c.requires.short in
    let room = c.requires.room in
    let long = c.loop-letter.invariant.long in
    let count = c.loop-letter.invariant.count in
    omega (arith, there, room, long, count)

pub loop-letter-preserved : goal.loop-letter-preserved
loop-letter-preserved g c =
    let rows = c.args.store.now.rows in
    let low = c.loop-letter-test.true in
    let inv = c.loop-letter.invariant in
    let next = walk_next rows c.args.node c.loop-letter.reached c.args.letters.now c.loop-letter.letter-index c.letter-item.result inv.reached low c.letter-item.is in
    let walked : walk rows c.args.node (take (c.loop-letter.letter-index + 1) c.args.letters.now) ≡ Some c.in-Some.child = next ∙ sym c.in-Some.ensures.value in
    let there = has_place rows c.args.node c.in-Some.child c.args.letters.now (c.loop-letter.letter-index + 1) NODES_OF_FRAME walked (omega (arith, low)) c.requires.short in
    let room = c.requires.room in
    let long = inv.long in
    let count = inv.count in
    let place : c.loop-letter.walked < length c.loop-letter.nodes.items = omega (arith, there, room, long, count) in
    let before = c.in-Some.ensures.before in
    record {
      count = omega (arith, count);
      there = omega (arith, inv.there, before);
      reached = walked;
      long = length-set c.loop-letter.nodes.items c.loop-letter.walked c.in-Some.child ∙ long;
      walked = more_walked rows c.args.node c.in-Some.child c.args.letters.now c.loop-letter.nodes.items c.loop-letter.walked inv.walked place
          (ap (λ (n : ℕ). walk rows c.args.node (take n c.args.letters.now)) count ∙ walked);
      spent = omega (arith, inv.spent, c.in-Some.ensures.steps);
    }

pub returns-clause-all : goal.returns-clause-all
returns-clause-all g c taken low walks =
    let count = c.loop-letter.invariant.count in
    elim c.loop-letter-test.branch [
      | else-loop-letter-test w ↦ let ended = w.loop-letter-test.false in omega (arith, ended, low, count)
      | then-loop-letter-test+in_default w ↦
          let rows = c.args.store.now.rows in
          let next = walk_next rows c.args.node c.loop-letter.reached c.args.letters.now c.loop-letter.letter-index w.letter-item.result c.loop-letter.invariant.reached w.loop-letter-test.true w.letter-item.is in
          let none : walk rows c.args.node (take (c.loop-letter.letter-index + 1) c.args.letters.now) ≡ None = next ∙ sym w.in_default.ensures.value in
          let below = walked_below rows c.args.node c.args.letters.now (c.loop-letter.letter-index + 1) taken none walks in
          omega (arith, below, count)
    ]
