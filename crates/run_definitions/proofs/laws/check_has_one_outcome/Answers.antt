-- What the file tells is one thing, and the first overlaps are one list.
use Rattle.trie_text_definitions.proofs.OneVersionReading.{one_version_reading}
use Rattle.run_definitions.proofs.OneOutcome.{one_check_outcome}
use Rattle.run_definitions.proofs.laws.check_has_one_outcome.Goals as goal

pub returns : goal.returns
returns c = one_check_outcome one_version_reading
