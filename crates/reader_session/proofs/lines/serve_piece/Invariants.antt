-- The lines that were cut off so far were served, and no write has failed; each turn leaves fewer bytes.
use Rattle.std.proofs.Common.{◌≡◌, ◌++◌, length}
use Rattle.reader_session.specs.Serving.{HasNoEnd}
use Rattle.reader_session.proofs.ServedPieces.{HasServedSoFar}
use Rattle.reader_session.proofs.lines.serve_piece.Given as goal

abbrev pub invariant-loop-line : goal.invariant-loop-line
invariant-loop-line g l = record {
  served : HasServedSoFar (l.fn.rest.items ++ l.piece) (l.rest.items ++ l.left) l.fn.session l.session (g.O.Sink.written l.fn.sink) (g.O.Sink.written l.sink);
  no_end : HasNoEnd l.rest.items;
  faults : g.O.Sink.faults l.sink ≡ g.O.Sink.faults l.fn.sink;
}

abbrev pub decreases-loop-line : goal.decreases-loop-line
decreases-loop-line g l = length l.left
