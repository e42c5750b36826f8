-- A node that is there has its number at its place.
use Rattle.std.proofs.Common.{sym, subst, arith}
use Rattle.std.specs.Prelude.{Contains}
use Rattle.shared_trie.specs.CanonicalNodes.{Numbered}
use Rattle.shared_trie.proofs.node_numbers.NodeNumbers.number_of.Goals as goal

pub index-requires : goal.index-requires
index-requires c =
    let here : Contains c.self.inside.nodes.items c.args.node = subst (λ (n : Numbered). Contains n.nodes c.args.node) (sym c.self.view_is) c.requires in
    let within = (c.self.invariant c.args.node here).0 in
    let number = c.number.ensures in
    let count = c.self.inside.numbers.ok.0 in
    omega (arith, within, number, count)
