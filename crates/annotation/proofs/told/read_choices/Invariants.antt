-- The texts so far are read as the choices so far.
use Rattle.annotation.proofs.ChoicesRead.{AreReadUpTo}
use Rattle.annotation.proofs.told.read_choices.Given as goal

abbrev pub invariant-loop-text : goal.invariant-loop-text
invariant-loop-text l = AreReadUpTo l.lexicon.lexicon l.texts l.text-index l.choices
