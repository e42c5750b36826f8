-- By the laws of walks through a child.
use Rattle.lexicon_definitions.proofs.TrieWalks.{IsHeight-once, children_less_high, child_one_less_high}
use Rattle.lexicon_definitions.proofs.trie_laws.heights_are_those_of_children.Goals as goal

pub returns : goal.returns
returns c = record { once = IsHeight-once; above = children_less_high; greatest = child_one_less_high }
