-- The positions so far are linked, and the others are as they were.
use Rattle.phase_automaton.proofs.Links.{AreLinkedBelow}
use Rattle.phase_automaton.proofs.position.link.Given as goal

abbrev pub invariant-loop-number : goal.invariant-loop-number
invariant-loop-number l = AreLinkedBelow l.from l.to l.number l.initial.positions l.positions
