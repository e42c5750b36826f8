-- What was told line by line spells the lines.
use Rattle.lexicon_text_definitions.proofs.WholeTexts.{read_text}
use Rattle.lexicon_text_definitions.proofs.texts.what_is_read_is_a_text.Goals as goal

pub returns : goal.returns
returns c = read_text
