use Rattle.std.proofs.Common.{Some}
use Rattle.rule_file.proofs.Turns.{made_more}
use Rattle.rule_file.proofs.entries.each_letter.Goals as goal

pub loop-letter-preserved : goal.loop-letter-preserved
loop-letter-preserved c =
    made_more Some c.args.letters.now c.loop-letter.letter-index c.letter-item.result c.loop-letter.fillings.items _ c.loop-letter-test.true c.letter-item.is
    c.in_ok-push.ensures.items c.loop-letter.invariant
