-- The law of positions.
use Rattle.lexicon_definitions.proofs.GrammarPositions.{same_positions_go_on}
use Rattle.lexicon_definitions.proofs.grammar_laws.same_positions_same_rests.Goals as goal

pub returns : goal.returns
returns c = same_positions_go_on
