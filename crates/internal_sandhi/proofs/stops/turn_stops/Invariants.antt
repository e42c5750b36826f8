use Rattle.internal_sandhi.proofs.StopSteps.{StopsTurned}
use Rattle.internal_sandhi.proofs.stops.turn_stops.Given as goal

abbrev pub invariant-loop-place : goal.invariant-loop-place
invariant-loop-place l = StopsTurned l.start l.place l.fn.letters l.letters
