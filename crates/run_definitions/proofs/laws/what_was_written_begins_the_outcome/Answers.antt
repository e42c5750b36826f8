-- First replies begin all replies; all else that is written is the output of an outcome, and there is one.
use Rattle.trie_text_definitions.proofs.OneVersionReading.{one_version_reading}
use Rattle.run_definitions.proofs.SoFar.{so_far_begins}
use Rattle.run_definitions.proofs.laws.what_was_written_begins_the_outcome.Goals as goal

pub returns : goal.returns
returns c = so_far_begins one_version_reading
