-- Internal sandhi changes none of its letters.
use Rattle.demo_definitions.proofs.WordsFormed.{word_is_form}
use Rattle.demo_definitions.proofs.laws.drawn_words_are_forms.Goals as goal

pub returns : goal.returns
returns c = word_is_form
