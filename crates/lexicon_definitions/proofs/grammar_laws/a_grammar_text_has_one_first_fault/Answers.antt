-- By cases on the faults; that there is no fault is what being within the limits says.
use Rattle.lexicon_definitions.proofs.GrammarFaultCases.{one_first_fault}
use Rattle.lexicon_definitions.proofs.grammar_laws.a_grammar_text_has_one_first_fault.Goals as goal

pub returns-clause-one : goal.returns-clause-one
returns-clause-one c = one_first_fault

pub returns-clause-none : goal.returns-clause-none
returns-clause-none c names text fault none first = none fault first
