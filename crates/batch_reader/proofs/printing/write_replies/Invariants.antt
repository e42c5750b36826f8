-- The replies before the next are written, and no write has failed.
use Rattle.std.proofs.Common.{◌≡◌, map}
use Rattle.std.specs.List.{concat}
use Rattle.batch_reader.proofs.WrittenPieces.{HasWrittenSoFar, bytes_from}
use Rattle.batch_reader.proofs.printing.write_replies.Given as goal

abbrev pub invariant-loop-reply : goal.invariant-loop-reply
invariant-loop-reply g l = record {
  written : HasWrittenSoFar (g.O.Sink.written l.fn.sink) (g.O.Sink.written l.sink) (concat (map (λ reply. reply.items) l.replies))
      (bytes_from l.reply-index l.replies);
  faults : g.O.Sink.faults l.sink ≡ g.O.Sink.faults l.fn.sink;
}
