-- One reply more is written; where its write stops, what was written is a prefix of the replies.
use Rattle.std.proofs.Common.{◌∙◌}
use Rattle.list_laws.proofs.Booleans.{on_err}
use Rattle.batch_reader.proofs.WrittenPieces.{piece_written, stopped_in_piece}
use Rattle.batch_reader.proofs.printing.write_replies.Goals as goal

pub returns-in_err-write_all-clause-prefix : goal.returns-in_err-write_all-clause-prefix
returns-in_err-write_all-clause-prefix g c =
    on_err c.from_residual.result _
    (stopped_in_piece _ _ _ c.loop-reply.reply-index c.args.replies.now c.reply-item.result c.loop-reply-test.true c.reply-item.is
    c.loop-reply.invariant.written _ (rw c.as_slice.ensures.value at c.in_err-write_all.ensures.prefix))

pub loop-reply-preserved : goal.loop-reply-preserved
loop-reply-preserved g c = record {
  written = piece_written _ _ _ c.loop-reply.reply-index c.args.replies.now c.reply-item.result c.loop-reply-test.true c.reply-item.is
      c.loop-reply.invariant.written _ (rw c.as_slice.ensures.value at c.in_ok-write_all.ensures.ok);
  faults = c.in_ok-write_all.ensures.faults ∙ c.loop-reply.invariant.faults;
}
