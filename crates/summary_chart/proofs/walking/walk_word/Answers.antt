-- The letter after those so far leads from the node that is reached to its child.
use Rattle.std.proofs.Common.{◌≡◌, ◌+◌, take, Some, sym, ◌∙◌, arith}
use Rattle.lexicon_definitions.specs.Tries.{walk}
use Rattle.search_frames.proofs.WalkLemmas.{walk_next, walk_rest}
use Rattle.summary_chart.proofs.walking.walk_word.Goals as goal

pub loop-letter-preserved : goal.loop-letter-preserved
loop-letter-preserved g c =
    let inv = c.loop-letter.invariant in
    let rows = c.args.store.now.rows in
    let word = c.args.word.now in
    let i = c.loop-letter.letter-index in
    let walked : walk rows c.args.node (take (i + 1) word) ≡ Some c.in_ok-reached.reached =
    walk_next rows c.args.node c.loop-letter.reached word i c.letter-item.result inv.reached c.loop-letter-test.true c.letter-item.is
    ∙ sym c.in_ok-reached.ensures.value in
    record {
      there = omega (arith, inv.there, c.in_ok-reached.ensures.before);
      same = walk_rest rows c.args.node c.in_ok-reached.reached word (i + 1) walked;
      reached = walked;
      spent = omega (arith, inv.spent, c.in_ok-reached.ensures.steps);
    }
