-- So far the choices are those that were gone over.
use Rattle.std.proofs.Common.{◌≡◌}
use Rattle.reader_session.proofs.resume_reply.choices_of.Given as goal

abbrev pub invariant-loop-choice : goal.invariant-loop-choice
invariant-loop-choice l = l.choices ≡ l.yielded
