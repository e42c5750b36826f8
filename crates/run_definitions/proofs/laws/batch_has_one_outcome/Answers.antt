-- What the lexicon file tells is one thing, and so is what the text file tells, each line of which has one reply.
use Rattle.trie_text_definitions.proofs.OneVersionReading.{one_version_reading}
use Rattle.run_definitions.proofs.OneOutcome.{one_batch_outcome}
use Rattle.run_definitions.proofs.laws.batch_has_one_outcome.Goals as goal

pub returns : goal.returns
returns c = one_batch_outcome one_version_reading
