-- `newest_of_text` has the proof.
use Rattle.existence_laws.proofs.NewestTextsThere.{newest_of_text}
use Rattle.existence_laws.proofs.files.a_lexicon_with_a_text_has_a_newest_text.Goals as goal

pub returns : goal.returns
returns c = newest_of_text
