-- Phases have a trie, and one in order.
use Rattle.existence_laws.proofs.OrderedTriesThere.{ordered_trie_there}
use Rattle.existence_laws.proofs.files.phases_have_an_ordered_trie.Goals as goal

pub returns : goal.returns
returns c = ordered_trie_there
