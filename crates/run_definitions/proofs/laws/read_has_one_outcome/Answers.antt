-- What the file tells is one thing, and the input has one session.
use Rattle.trie_text_definitions.proofs.OneVersionReading.{one_version_reading}
use Rattle.run_definitions.proofs.OneOutcome.{one_read_outcome}
use Rattle.run_definitions.proofs.laws.read_has_one_outcome.Goals as goal

pub returns : goal.returns
returns c = one_read_outcome one_version_reading
