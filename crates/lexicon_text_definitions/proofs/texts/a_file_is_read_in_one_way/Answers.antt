-- The lines decide, and the grammar's text has one first fault at most.
use Rattle.lexicon_text_definitions.proofs.OneReading.{one_reading}
use Rattle.lexicon_text_definitions.proofs.texts.a_file_is_read_in_one_way.Goals as goal

pub returns : goal.returns
returns c = one_reading
