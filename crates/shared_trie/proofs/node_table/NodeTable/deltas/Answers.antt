-- the node is read, and its list by its number
use Rattle.std.proofs.Common.{◌≡◌, ◌-◌, List, get_or, map, sym, ◌∙◌, ap}
use Rattle.std.specs.Global.{Vec}
use Rattle.form_tags.specs.declared.delta.Delta.{Delta}
use Rattle.form_tags.specs.Analyses.{text_delta}
use Rattle.lexicon_definitions.specs.Tries.{Row}
use Rattle.shared_trie.proofs.PackedRows.{list_read, packed_read}
use Rattle.shared_trie.proofs.node_table.NodeTable.deltas.Goals as goal

pub returns : goal.returns
returns c =
    let children = c.self.inside.children.items in
    let lists = c.self.inside.lists.keys in
    let packed = c.index.result.now in
    let list = c.index-as_slice-list.result in
    let (row, is) = packed_read children lists c.self.inside.nodes.items c.args.self.now c.number.result c.args.node packed c.index.ensures c.number.ensures c.self.view_is c.requires c.self.invariant.packed in
    let read : list ≡ get_or lists (packed.list - 1) list = c.index-as_slice-list.is ∙ ap (λ (ls : List (Vec Delta)). get_or ls (packed.list - 1) list) c.as_slice.ensures.keys in
    ap (λ (ds : List Delta). map text_delta ds) c.as_slice-2.ensures.value
    ∙ list_read lists packed.list list c.if-list-eq0.false read is.listed
    ∙ sym (ap (λ (r : Row). r.deltas) row)
