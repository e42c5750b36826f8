-- The buffer keeps its length, and the tries so far took nothing.
use Rattle.std.proofs.Common.{◌≡◌, length}
use Rattle.std.specs.Io.KnownBytes.{Keeps}
use Rattle.outside.proofs.retrying.read_some.Given as goal

abbrev pub invariant-loop-tries : goal.invariant-loop-tries
invariant-loop-tries g l = (length l.buf ≡ length l.initial.buf) × Keeps (g.F.Read.remaining l.initial.reader) (g.F.Read.remaining l.reader)
