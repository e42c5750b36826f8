-- A node that has a number is there, and so are its children.
use Rattle.std.proofs.Common.{ℕ, List, sym, subst}
use Rattle.std.specs.Prelude.{All, Contains}
use Rattle.lexicon_file.proofs.NodesWritten.{node_there, children_there}
use Rattle.lexicon_file.proofs.writing_nodes.push_node.Goals as goal

pub deltas-requires : goal.deltas-requires
deltas-requires c = node_there c.args.store.now c.requires.trie c.args.numbers.now.nodes c.requires.canonical c.args.node c.requires.there

pub children_of-requires : goal.children_of-requires
children_of-requires c = node_there c.args.store.now c.requires.trie c.args.numbers.now.nodes c.requires.canonical c.args.node c.requires.there

pub push_node_line-requires : goal.push_node_line-requires
push_node_line-requires c =
    subst (λ (children : List (ℕ × ℕ)). All (λ (child : ℕ × ℕ). Contains c.args.numbers.now.nodes child.1) children) (sym c.children_of.ensures.value)
    (children_there c.args.store.now c.requires.trie c.args.numbers.now.nodes c.requires.canonical c.args.node c.requires.there)
