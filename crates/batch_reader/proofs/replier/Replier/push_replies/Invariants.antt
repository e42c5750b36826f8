-- The lines so far were replied to, and the next search may stand on the desk's stack.
use Rattle.std.proofs.Common.{◌≡◌, ◌+◌, take}
use Rattle.batch_reader.specs.Desks.{IsDesk}
use Rattle.batch_reader.specs.Replies.{ArePortionReplies}
use Rattle.batch_reader.proofs.replier.Replier.push_replies.Given as goal

abbrev pub invariant-loop-line : goal.invariant-loop-line
invariant-loop-line g l = record {
  next : l.number ≡ l.portion.number + l.line-index;
  replies : ArePortionReplies l.self.lexicon.now.lexicon l.self.count l.portion.number (take l.line-index l.portion.lines.now) l.output.items;
  desk : IsDesk l.desk;
}
