-- the nodes so far have their suffixes
use Rattle.annotated_trie.specs.Suffixes.{AreSetsAt}
use Rattle.annotated_trie.proofs.node_suffixes.number_nodes.Given as goal

abbrev pub invariant-loop-number : goal.invariant-loop-number
invariant-loop-number l = AreSetsAt l.suffixes.keys l.store.rows l.number l.nodes.sets.keys l.nodes.places.items
