-- The blocks before what is left were served, and no write has failed; each turn leaves fewer bytes.
use Rattle.std.proofs.Common.{◌≡◌, length}
use Rattle.text_line.specs.Values.{scheme_of}
use Rattle.batch_reader.proofs.ServedLines.{HasServedSoFar}
use Rattle.batch_reader.proofs.batch.Batch.serve.Given as goal

abbrev pub invariant-loop-rest : goal.invariant-loop-rest
invariant-loop-rest g l = record {
  served : HasServedSoFar l.self.lexicon.now.lexicon (scheme_of l.self.scheme) l.self.count l.number l.text l.rest (g.O.Sink.written l.fn.sink) (g.O.Sink.written l.sink);
  faults : g.O.Sink.faults l.sink ≡ g.O.Sink.faults l.fn.sink;
}

abbrev pub decreases-loop-rest : goal.decreases-loop-rest
decreases-loop-rest g l = length l.rest
