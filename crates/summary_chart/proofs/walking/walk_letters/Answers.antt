-- The letter after those so far leads from the node that is reached to its child, or nowhere; then no more letters lead anywhere.
use Rattle.std.proofs.Common.{◌≡◌, ◌∷◌, [], ℕ, ◌+◌, length, take, Some, None, sym, ◌∙◌, ap, arith, length-append}
use Rattle.lexicon_definitions.specs.Tries.{walk}
use Rattle.search_frames.specs.declared.frame.TheConstants.{NODES_OF_FRAME}
use Rattle.search_frames.proofs.WalkLemmas.{walk_next, has_place, walked_below}
use Rattle.summary_chart.proofs.Walks.{more_walked}
use Rattle.summary_chart.proofs.walking.walk_letters.Goals as goal

pub loop-letter-preserved : goal.loop-letter-preserved
loop-letter-preserved g c =
    let rows = c.args.store.now.rows in
    let letters = c.args.letters.now in
    let low = c.loop-letter-test.true in
    let inv = c.loop-letter.invariant in
    let child = c.in-Some.child in
    let old = c.loop-letter.nodes.items in
    let pushed = c.in_ok-push-2.ensures.items in
    let next = walk_next rows c.args.node c.loop-letter.reached letters c.loop-letter.letter-index c.letter-item.result inv.reached low c.letter-item.is in
    let walked : walk rows c.args.node (take (c.loop-letter.letter-index + 1) letters) ≡ Some child = next ∙ sym c.in-Some.ensures.value in
    let count = inv.count in
    let before = c.in-Some.ensures.before in
    let there = inv.there in
    let long = ap length pushed in
    let both = length-append old (child ∷ []) in
    record {
      low = omega (arith, low);
      count = omega (arith, count, long, both);
      there = omega (arith, there, before);
      reached = walked;
      walked = more_walked rows c.args.node child letters old c.push-in-loop-letter.new.self.items inv.walked
          (ap (λ (n : ℕ). walk rows c.args.node (take n letters)) count ∙ walked) pushed;
      spent = omega (arith, inv.spent, c.in-Some.ensures.steps);
    }

pub returns-in_default-clause-walked : goal.returns-in_default-clause-walked
returns-in_default-clause-walked g c =
    let rows = c.args.store.now.rows in
    let letters = c.args.letters.now in
    let low = c.loop-letter-test.true in
    let inv = c.loop-letter.invariant in
    let next = walk_next rows c.args.node c.loop-letter.reached letters c.loop-letter.letter-index c.letter-item.result inv.reached low c.letter-item.is in
    let none : walk rows c.args.node (take (c.loop-letter.letter-index + 1) letters) ≡ None = next ∙ sym c.in_default.ensures.value in
    let place = has_place rows c.args.node c.loop-letter.reached letters c.loop-letter.letter-index NODES_OF_FRAME inv.reached inv.low c.requires.short in
    let count = inv.count in
    record {
      few = omega (arith, count, place);
      within = omega (arith, count, low);
      walked = inv.walked.each;
      all = λ taken few walks. (let below = walked_below rows c.args.node letters (c.loop-letter.letter-index + 1) taken none walks in omega (arith, below, count));
    }
