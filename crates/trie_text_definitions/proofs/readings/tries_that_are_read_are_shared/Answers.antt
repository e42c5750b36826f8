-- What was told line by line is lawful.
use Rattle.trie_text_definitions.proofs.SharedTries.{shared_by}
use Rattle.trie_text_definitions.proofs.readings.tries_that_are_read_are_shared.Goals as goal

pub returns : goal.returns
returns c = shared_by
