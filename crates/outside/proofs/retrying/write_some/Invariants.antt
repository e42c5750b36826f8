-- The tries so far wrote nothing.
use Rattle.std.specs.Io.KnownBytes.{Keeps}
use Rattle.outside.proofs.retrying.write_some.Given as goal

abbrev pub invariant-loop-tries : goal.invariant-loop-tries
invariant-loop-tries g l = Keeps (g.F.Write.contents l.initial.writer) (g.F.Write.contents l.writer)
