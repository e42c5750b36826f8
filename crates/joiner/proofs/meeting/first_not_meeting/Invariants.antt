-- What is at fault from the links that are left on is at fault along all.
use Rattle.joiner.proofs.LinksMet.{IsMetSoFar}
use Rattle.joiner.proofs.meeting.first_not_meeting.Given as goal

abbrev pub invariant-loop-index : goal.invariant-loop-index
invariant-loop-index l = IsMetSoFar l.rules l.links l.index
