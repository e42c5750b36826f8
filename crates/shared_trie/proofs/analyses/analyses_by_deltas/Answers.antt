-- Each delta is one of those that cut no more than there is, and the analyses so far rise.
use Rattle.std.proofs.Common.{take}
use Rattle.shared_trie.proofs.PutAnalyses.{given_rise, one_within, one_put}
use Rattle.shared_trie.proofs.analyses.analyses_by_deltas.Goals as goal

pub from_delta-requires : goal.from_delta-requires
from_delta-requires c = one_within c.args.form.now c.args.deltas.now c.loop-delta.delta-index c.delta-item.result c.requires.within c.loop-delta-test.true c.delta-item.is

pub put_analysis-requires : goal.put_analysis-requires
put_analysis-requires c = record { rising = given_rise c.args.form.now (take c.loop-delta.delta-index c.args.deltas.now) _ c.loop-delta.invariant }

pub loop-delta-preserved : goal.loop-delta-preserved
loop-delta-preserved c =
    one_put c.args.form.now c.args.deltas.now c.loop-delta.delta-index c.delta-item.result _ _ _ c.loop-delta-test.true c.delta-item.is
    c.in_ok-analysis.ensures.ok c.loop-delta.invariant c.in_ok-put_analysis.ensures.ok
