-- Its phases have one ordered trie.
use Rattle.trie_text_definitions.proofs.OneText.{one_text, one_newest}
use Rattle.trie_text_definitions.proofs.readings.a_lexicon_has_one_text_in_a_version.Goals as goal

pub returns-clause-version : goal.returns-clause-version
returns-clause-version c = one_text

pub returns-clause-newest : goal.returns-clause-newest
returns-clause-newest c = one_newest
