-- What is read spells the levels that stand open, and at the end one level does; a name that the walk passes is a phase's.
use Rattle.phase_automaton.proofs.Spelling.{text_spells}
use Rattle.phase_automaton.proofs.SpelledTexts.{names_of_phases}
use Rattle.phase_automaton.proofs.laws.grammar_text_spells_its_tree.Goals as goal

pub returns-clause-tree : goal.returns-clause-tree
returns-clause-tree c = text_spells

pub returns-clause-names : goal.returns-clause-names
returns-clause-names c = names_of_phases
