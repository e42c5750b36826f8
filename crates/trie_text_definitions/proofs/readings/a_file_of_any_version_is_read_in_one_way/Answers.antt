-- The first line tells the version, and the lines decide.
use Rattle.trie_text_definitions.proofs.OneVersionReading.{one_version_reading}
use Rattle.trie_text_definitions.proofs.readings.a_file_of_any_version_is_read_in_one_way.Goals as goal

pub returns : goal.returns
returns c = one_version_reading
