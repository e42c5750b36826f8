-- Outcomes of two cases exclude each other, and those of one case are the same, since bytes are read in one way.
use Rattle.trie_text_definitions.proofs.OneVersionReading.{one_version_reading}
use Rattle.run_definitions.proofs.OneOutcome.{one_split_outcome}
use Rattle.run_definitions.proofs.laws.split_has_one_outcome.Goals as goal

pub returns : goal.returns
returns c = one_split_outcome one_version_reading
