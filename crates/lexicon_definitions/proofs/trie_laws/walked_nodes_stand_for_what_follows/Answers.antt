-- By the law of two walks, one after the other.
use Rattle.lexicon_definitions.proofs.TrieWalks.{IsNodeAfter-walk}
use Rattle.lexicon_definitions.proofs.trie_laws.walked_nodes_stand_for_what_follows.Goals as goal

pub returns : goal.returns
returns c = IsNodeAfter-walk
