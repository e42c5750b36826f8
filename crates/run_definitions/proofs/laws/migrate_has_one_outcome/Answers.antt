-- The lexicon file tells one thing, and its lexicon has one newest text.
use Rattle.trie_text_definitions.proofs.OneVersionReading.{one_version_reading}
use Rattle.run_definitions.proofs.OneOutcome.{one_migrate_outcome}
use Rattle.run_definitions.proofs.laws.migrate_has_one_outcome.Goals as goal

pub returns : goal.returns
returns c = one_migrate_outcome one_version_reading
