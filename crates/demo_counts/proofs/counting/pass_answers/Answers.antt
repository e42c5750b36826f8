-- One answer more is passed at each turn.
use Rattle.demo_counts.proofs.PassedAnswers.{at_first, one_more}
use Rattle.demo_counts.proofs.counting.pass_answers.Goals as goal

pub loop-passed-init : goal.loop-passed-init
loop-passed-init g c = at_first c.args.search.now

pub loop-passed-preserved : goal.loop-passed-preserved
loop-passed-preserved g c =
    one_more c.args.search.now c.loop-passed.search c.advance.new.self c.loop-passed.passed c.loop-passed.invariant c.if-not-advance.ensures.moved
