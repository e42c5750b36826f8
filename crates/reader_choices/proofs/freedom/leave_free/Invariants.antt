-- The choices so far leave such steps free.
use Rattle.reader_choices.proofs.FreeSteps.{LeaveFreeSoFar}
use Rattle.reader_choices.proofs.freedom.leave_free.Given as goal

abbrev pub invariant-loop-choice : goal.invariant-loop-choice
invariant-loop-choice l = LeaveFreeSoFar l.at l.lead l.is_first l.taken l.choices l.choice-index l.may_end
