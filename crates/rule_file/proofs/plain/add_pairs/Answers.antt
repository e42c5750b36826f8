-- The pairs of one letter more.
use Rattle.std.proofs.Common.{◌<◌, length, map, arith}
use Rattle.rule_file.proofs.PlainLemmas.{rising_more, row_turn}
use Rattle.rule_file.proofs.plain.add_pairs.Goals as goal

pub loop-letter-preserved : goal.loop-letter-preserved
loop-letter-preserved c =
    let within : c.loop-letter.letter-index < length c.args.left.now = omega (arith, c.loop-letter-test.true) in
    record {
      rising = rising_more c.loop-letter.pairs.items c.add_pairs_of.new.pairs.items (map (λ y. (c.letter-item.result, y)) c.args.right.now) c.loop-letter.invariant.rising c.in_ok-add_pairs_of.ensures;
      rest = row_turn c.args.left.now c.args.right.now c.loop-letter.letter-index c.letter-item.result c.loop-letter.pairs.items c.add_pairs_of.new.pairs.items _ within c.letter-item.is
          c.in_ok-add_pairs_of.ensures c.loop-letter.invariant.rest;
    }
