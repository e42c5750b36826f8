-- The tokens of an expression may stand where they stand, and the walk over the bytes finds no other fault.
use Rattle.phase_automaton.proofs.SpelledTexts.{spelled_has_no_fault}
use Rattle.phase_automaton.proofs.laws.spelled_texts_have_no_fault.Goals as goal

pub returns : goal.returns
returns c = spelled_has_no_fault
