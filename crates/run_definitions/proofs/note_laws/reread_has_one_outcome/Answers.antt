-- The lexicon file tells one thing, and so does the file of the note over its lexicon.
use Rattle.trie_text_definitions.proofs.OneVersionReading.{one_version_reading}
use Rattle.run_definitions.proofs.OneOutcome.{one_reread_outcome}
use Rattle.run_definitions.proofs.note_laws.reread_has_one_outcome.Goals as goal

pub returns : goal.returns
returns c = one_reread_outcome one_version_reading
