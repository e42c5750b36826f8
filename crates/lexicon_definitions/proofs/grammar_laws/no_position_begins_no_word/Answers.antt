-- The law of positions.
use Rattle.lexicon_definitions.proofs.GrammarPositions.{no_position_no_word}
use Rattle.lexicon_definitions.proofs.grammar_laws.no_position_begins_no_word.Goals as goal

pub returns : goal.returns
returns c = no_position_no_word
