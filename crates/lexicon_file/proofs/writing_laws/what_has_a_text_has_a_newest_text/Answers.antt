-- A text of any version asks for what the newest one does, and for rules of the version.
use Rattle.lexicon_file.proofs.NewestTexts.{newest_by_text}
use Rattle.lexicon_file.proofs.writing_laws.what_has_a_text_has_a_newest_text.Goals as goal

pub returns : goal.returns
returns c = newest_by_text
