-- What was found so far are replies, and the next search may stand on the desk's stack.
use Rattle.batch_reader.specs.Desks.{IsDesk}
use Rattle.batch_reader.specs.Replies.{AreFound}
use Rattle.batch_reader.proofs.answering.find_replies.Given as goal

abbrev pub invariant-loop : goal.invariant-loop
invariant-loop g l = record {
  found : AreFound l.replier.lexicon.now.lexicon l.replier.count l.asked l.found.items;
  desk : IsDesk l.desk;
}
