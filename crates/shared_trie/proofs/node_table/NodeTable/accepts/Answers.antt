-- the node is read, and its list has a number or not
use Rattle.std.proofs.Common.{◌≢◌, ◌↔◌, List, [], not, nat_eq, IsTrue, sym, ap, subst}
use Rattle.lexicon_definitions.specs.Deltas.{Delta as TextDelta}
use Rattle.lexicon_definitions.specs.Tries.{Row}
use Rattle.shared_trie.proofs.PackedRows.{list_some, packed_read}
use Rattle.shared_trie.proofs.node_table.NodeTable.accepts.Goals as goal

pub returns : goal.returns
returns c =
    let children = c.self.inside.children.items in
    let lists = c.self.inside.lists.keys in
    let packed = c.index.result.now in
    let (row, is) = packed_read children lists c.self.inside.nodes.items c.args.self.now c.number.result c.args.node packed c.index.ensures c.number.ensures c.self.view_is c.requires c.self.invariant.packed in
    subst (λ (ds : List TextDelta). IsTrue (not (nat_eq packed.list 0)) ↔ (ds ≢ [])) (sym (ap (λ (r : Row). r.deltas) row))
    (list_some lists packed.list is.listed c.self.invariant.packed.some)
