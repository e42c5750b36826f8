-- The lines of the text are read one after another.
use Rattle.lexicon_text_definitions.proofs.WrittenTexts.{text_read}
use Rattle.lexicon_text_definitions.proofs.texts.a_text_is_read_as_its_lexicon.Goals as goal

pub returns : goal.returns
returns c = text_read
