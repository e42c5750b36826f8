-- The triple of one rule more goes last.
use Rattle.joiner.proofs.RulesFound.{triple_added}
use Rattle.joiner.proofs.naming.triples_of.Goals as goal

pub loop-rule-preserved : goal.loop-rule-preserved
loop-rule-preserved c =
    triple_added c.args.rules.now c.loop-rule.rule-index c.rule-item.result c.loop-rule.triples.keys c.insert.new.self.keys c.in_ok-triple.triple c.in_ok-insert.field-0
    c.requires c.loop-rule-test.true c.rule-item.is c.loop-rule.invariant c.in_ok-triple.ensures c.in_ok-insert.ensures.keys c.in_ok-insert.ensures.added
