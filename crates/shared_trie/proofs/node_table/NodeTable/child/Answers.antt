-- the node is read, and the letter's place among its letters is that of its child
use Rattle.std.proofs.Common.{◌≡◌, ℕ, List, length, map, sym, ◌∙◌, ap, arith}
use Rattle.std.proofs.lemmas.List.{length-map}
use Rattle.lexicon_definitions.specs.Tries.{Row, child_among}
use Rattle.shared_trie.proofs.PackedRows.{child_at, no_child, packed_read, place_within}
use Rattle.shared_trie.proofs.node_table.NodeTable.child.Goals as goal

pub returns-in_err-place : goal.returns-in_err-place
returns-in_err-place c =
    let children = c.self.inside.children.items in
    let lists = c.self.inside.lists.keys in
    let packed = c.index-packed.result.now in
    let (row, is) = packed_read children lists c.self.inside.nodes.items c.args.self.now c.number.result c.args.node packed c.index-packed.ensures c.number.ensures c.self.view_is c.requires c.self.invariant.packed in
    c.from_residual.ensures ∙ no_child children lists packed is c.args.letter c.in_err-place.ensures
    ∙ sym (ap (λ (r : Row). child_among r.children c.args.letter) row)

pub index-requires : goal.index-requires
index-requires c =
    let children = c.self.inside.children.items in
    let targets = c.self.inside.targets.items in
    let lists = c.self.inside.lists.keys in
    let packed = c.index-packed.result.now in
    let (_, is) = packed_read children lists c.self.inside.nodes.items c.args.self.now c.number.result c.args.node packed c.index-packed.ensures c.number.ensures c.self.view_is c.requires c.self.invariant.packed in
    let within = place_within children lists packed is c.in_ok-place.place c.args.letter c.in_ok-place.ensures in
    let same : length targets ≡ length (map (λ (child : ℕ × ℕ). child.1) children) = ap (λ (ts : List ℕ). length ts) c.self.invariant.alone in
    let long = length-map children (λ (child : ℕ × ℕ). child.1) in
    omega (arith, within, same, long)

pub returns : goal.returns
returns c =
    let children = c.self.inside.children.items in
    let lists = c.self.inside.lists.keys in
    let packed = c.index-packed.result.now in
    let (row, is) = packed_read children lists c.self.inside.nodes.items c.args.self.now c.number.result c.args.node packed c.index-packed.ensures c.number.ensures c.self.view_is c.requires c.self.invariant.packed in
    child_at children lists packed is c.args.letter c.in_ok-place.place c.self.inside.targets.items c.index.result.now c.in_ok-place.ensures c.self.invariant.alone c.index.ensures
    ∙ sym (ap (λ (r : Row). child_among r.children c.args.letter) row)
