-- What was taken of the input was served, where the source tells it; the unfinished line has no line end, and no device has failed.
-- Each turn allows fewer bytes.
use Rattle.std.proofs.Common.{◌≡◌, ℕ, List, Some, length}
use Rattle.reader_session.specs.Serving.{HasNoEnd}
use Rattle.reader_session.proofs.ServedInputs.{IsServing}
use Rattle.reader_session.proofs.input.serve_lines.Given as goal

abbrev pub invariant-loop-count : goal.invariant-loop-count
invariant-loop-count g l = record {
  serving : (input : List ℕ) → g.I.Source.left l.fn.source ≡ Some input
      → IsServing l.fn.session.searched input l.session l.rest.items l.allowed (g.O.Sink.written l.fn.sink) (g.I.Source.left l.source) (g.O.Sink.written l.sink);
  no_end : HasNoEnd l.rest.items;
  room : length l.piece ≡ 4096;
  faults : g.O.Sink.faults l.sink ≡ g.O.Sink.faults l.fn.sink;
  read_faults : g.I.Source.faults l.source ≡ g.I.Source.faults l.fn.source;
}

abbrev pub decreases-loop-count : goal.decreases-loop-count
decreases-loop-count g l = l.allowed
