-- The lexicon file tells one thing, its text is one bookmark, and the next answers are one.
use Rattle.trie_text_definitions.proofs.OneVersionReading.{one_version_reading}
use Rattle.run_definitions.proofs.OneOutcome.{one_annotate_outcome}
use Rattle.run_definitions.proofs.note_laws.annotate_has_one_outcome.Goals as goal

pub returns : goal.returns
returns c = one_annotate_outcome one_version_reading
