use Rattle.internal_sandhi.proofs.NasalSteps.{Flags}
use Rattle.internal_sandhi.proofs.nasals.turn_nasals.Given as goal

abbrev pub invariant-loop-place : goal.invariant-loop-place
invariant-loop-place l = Flags l.start l.place l.before.turned l.before.reached l.fn.letters l.letters
