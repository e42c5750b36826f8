-- Record by record, what is taken keeps what is asked of sources.
use Rattle.lexicon_builder.proofs.SourcesRead.{sources_read}
use Rattle.lexicon_builder.proofs.laws.what_is_read_are_sources.Goals as goal

pub returns : goal.returns
returns c = sources_read
