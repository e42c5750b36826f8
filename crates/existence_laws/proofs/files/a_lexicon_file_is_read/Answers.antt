-- `lexicon_read_there` has the proof.
use Rattle.existence_laws.proofs.FilesThere.{lexicon_read_there}
use Rattle.existence_laws.proofs.files.a_lexicon_file_is_read.Goals as goal

pub returns : goal.returns
returns c = lexicon_read_there
