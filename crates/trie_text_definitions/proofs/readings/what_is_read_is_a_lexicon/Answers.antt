-- What was told line by line is lawful, and so are the forms of each root.
use Rattle.trie_text_definitions.proofs.LexiconsTold.{read_lexicon}
use Rattle.trie_text_definitions.proofs.readings.what_is_read_is_a_lexicon.Goals as goal

pub returns : goal.returns
returns c = read_lexicon
