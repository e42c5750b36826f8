-- The law of positions.
use Rattle.lexicon_definitions.proofs.GrammarPositions.{same_state_same_positions}
use Rattle.lexicon_definitions.proofs.grammar_laws.same_state_same_positions.Goals as goal

pub returns : goal.returns
returns c = same_state_same_positions
