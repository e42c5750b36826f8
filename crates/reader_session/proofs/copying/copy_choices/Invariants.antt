-- So far the copies are the choices that were gone over.
use Rattle.std.proofs.Common.{◌≡◌, take}
use Rattle.reader_session.proofs.copying.copy_choices.Given as goal

abbrev pub invariant-loop-choice : goal.invariant-loop-choice
invariant-loop-choice l = l.copies.items ≡ take l.choice-index l.choices
