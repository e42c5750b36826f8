-- So many replies as lines were gone over, and they are the replies to these; what is left of those that were found are replies.
use Rattle.std.proofs.Common.{map, take}
use Rattle.batch_reader.specs.Replies.{AreFound, AreRepliesTo}
use Rattle.batch_reader.proofs.answering.complete.Given as goal

abbrev pub invariant-loop-place : goal.invariant-loop-place
invariant-loop-place g l = record {
  found : AreFound l.replier.lexicon.now.lexicon l.replier.count l.asked l.found.items;
  replied : AreRepliesTo l.replier.lexicon.now.lexicon l.replier.count (take l.place l.asked) (map (λ reply. reply.items) l.replies.items);
}
