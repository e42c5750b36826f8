-- The reply to one line more comes after its number.
use Rattle.std.proofs.Common.{arith}
use Rattle.batch_reader.proofs.RepliedLines.{line_replied}
use Rattle.batch_reader.proofs.replier.Replier.push_replies.Goals as goal

pub loop-line-preserved : goal.loop-line-preserved
loop-line-preserved g c = record {
  next = omega (arith, c.loop-line.invariant.next);
  replies = line_replied c.args.self.now.lexicon.now.lexicon c.args.self.now.count c.args.portion.now.number c.loop-line.number c.loop-line.line-index
      c.args.portion.now.lines.now c.line-item.result c.loop-line.output.items c.push_number.new.output.items c.push_reply.new.output.items
      c.loop-line-test.true c.line-item.is c.loop-line.invariant.next c.loop-line.invariant.replies c.in_ok-push_number.ensures c.in_ok-desk.ensures.ok;
  desk = c.in_ok-desk.ensures.desk;
}
