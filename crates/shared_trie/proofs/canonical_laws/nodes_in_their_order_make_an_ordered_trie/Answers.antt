-- A root stands for what it stood for.
use Rattle.shared_trie.proofs.NumberedTries.{ordered_trie}
use Rattle.shared_trie.proofs.canonical_laws.nodes_in_their_order_make_an_ordered_trie.Goals as goal

pub returns : goal.returns
returns c = ordered_trie
