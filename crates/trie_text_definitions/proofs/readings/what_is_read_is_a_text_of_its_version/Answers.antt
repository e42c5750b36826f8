-- What was told line by line spells the lines, and its trie is that of the phases.
use Rattle.trie_text_definitions.proofs.TrieTextsRead.{read_text}
use Rattle.trie_text_definitions.proofs.readings.what_is_read_is_a_text_of_its_version.Goals as goal

pub returns : goal.returns
returns c = read_text
