-- Each analysis has a delta, and suffixes rise as forms do.
use Rattle.trie_text_definitions.proofs.TrieLexicons.{trie_tells_phases}
use Rattle.trie_text_definitions.proofs.readings.a_trie_tells_its_phases.Goals as goal

pub returns : goal.returns
returns c = trie_tells_phases
