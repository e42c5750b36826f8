-- Its lines are read one after another.
use Rattle.trie_text_laws.proofs.TextsReadBack.{text_read, any_text_read, newest_text_read}
use Rattle.trie_text_laws.proofs.the_text_of_a_lexicon_is_read_as_it.Goals as goal

pub returns-clause-version : goal.returns-clause-version
returns-clause-version c = text_read

pub returns-clause-any : goal.returns-clause-any
returns-clause-any c = any_text_read

pub returns-clause-newest : goal.returns-clause-newest
returns-clause-newest c = newest_text_read
