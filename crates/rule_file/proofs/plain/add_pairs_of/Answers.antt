-- One pair more.
use Rattle.std.proofs.Common.{◌<◌, length, arith}
use Rattle.rule_file.proofs.PlainLemmas.{rising_one, pair_turn}
use Rattle.rule_file.proofs.plain.add_pairs_of.Goals as goal

pub loop-letter-preserved : goal.loop-letter-preserved
loop-letter-preserved c =
    let within : c.loop-letter.letter-index < length c.args.right.now = omega (arith, c.loop-letter-test.true) in
    record {
      rising = rising_one c.loop-letter.pairs.items c.add_pair.new.pairs.items (c.args.left, c.letter-item.result) c.loop-letter.invariant.rising c.in_ok-add_pair.ensures;
      rest = pair_turn c.args.left c.args.right.now c.loop-letter.letter-index c.letter-item.result c.loop-letter.pairs.items c.add_pair.new.pairs.items _ within c.letter-item.is
          c.in_ok-add_pair.ensures c.loop-letter.invariant.rest;
    }
