-- Rising lists with the same elements are equal.
use Rattle.lexicon_definitions.proofs.GrammarStates.{same_positions_same_state}
use Rattle.lexicon_definitions.proofs.grammar_laws.same_positions_same_state.Goals as goal

pub returns : goal.returns
returns c = same_positions_same_state
