-- `lexicon_there` has the proof.
use Rattle.existence_laws.proofs.LexiconsThere.{lexicon_there}
use Rattle.existence_laws.proofs.files.sources_have_a_lexicon.Goals as goal

pub returns : goal.returns
returns c = lexicon_there
