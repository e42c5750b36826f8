-- one node more, with the children and the list that were added for it
use Rattle.std.proofs.Common.{◌≡◌, ◌++◌, ◌∷◌, [], List, ℕ, length, map, ◌∙◌, ap, arith}
use Rattle.form_tags.specs.Analyses.{text_delta}
use Rattle.lexicon_definitions.specs.Tries.{Row}
use Rattle.shared_trie.specs.Packed.{row_with}
use Rattle.shared_trie.specs.declared.packed_node.PackedNode.{PackedNode}
use Rattle.shared_trie.proofs.PackedRows.{row_pushed, table_pushed, table_same}
use Rattle.shared_trie.proofs.node_table.NodeTable.push.Goals as goal

pub invariant_of-self-in_err-number_list : goal.invariant_of-self-in_err-number_list
invariant_of-self-in_err-number_list c =
    table_same c.self.inside.children.items c.reserve-2.new.self.items c.self.inside.targets.items c.reserve-3.new.self.items
    c.self.inside.lists.keys c.number_list.new.lists.keys c.self.inside.nodes.items c.reserve.new.self.items
    c.reserve-2.ensures.items c.reserve-3.ensures.items c.in_err-number_list.ensures.unchanged c.reserve.ensures.items c.self.invariant

pub invariant_of-self-2 : goal.invariant_of-self-2
invariant_of-self-2 c =
    let children = c.self.inside.children.items in
    let added = c.args.children.now in
    let lists = c.self.inside.lists.keys in
    let nodes = c.self.inside.nodes.items in
    let node : PackedNode = record { letters = c.letters_of.result; first = c.len.result; list = c.in_ok-number_list.field-0 } in
    let all_children : c.extend_from_slice.new.self.items ≡ children ++ added = c.in-Ok.ensures.items ∙ ap (λ (cs : List (ℕ × ℕ)). cs ++ added) c.reserve-2.ensures.items in
    let all_nodes : c.push.new.self.items ≡ nodes ++ node ∷ [] = c.in-Ok-push.ensures.items ∙ ap (λ (ns : List PackedNode). ns ++ node ∷ []) c.reserve.ensures.items in
    let same = ap length c.reserve-2.ensures.items in
    let first : c.len.result ≡ length children = omega (arith, same, c.len.ensures) in
    let targets = c.self.inside.targets.items in
    let all_targets : c.push_targets.new.targets.items ≡ targets ++ map (λ (child : ℕ × ℕ). child.1) added =
    c.push_targets.ensures ∙ ap (λ (ts : List ℕ). ts ++ map (λ (child : ℕ × ℕ). child.1) added) c.reserve-3.ensures.items in
    table_same (children ++ added) c.extend_from_slice.new.self.items (targets ++ map (λ (child : ℕ × ℕ). child.1) added) c.push_targets.new.targets.items
    c.number_list.new.lists.keys c.number_list.new.lists.keys (nodes ++ node ∷ []) c.push.new.self.items
    all_children all_targets (λ i. c.number_list.new.lists.keys) all_nodes
    (table_pushed children added lists c.number_list.new.lists.keys nodes node (map text_delta c.args.deltas.items) c.self.invariant.packed
    c.in_ok-number_list.ensures.grown c.in_ok-number_list.ensures.ok first c.letters_of.ensures targets c.self.invariant.alone)

pub returns-clause-ok : goal.returns-clause-ok
returns-clause-ok c =
    let children = c.self.inside.children.items in
    let added = c.args.children.now in
    let lists = c.self.inside.lists.keys in
    let nodes = c.self.inside.nodes.items in
    let node : PackedNode = record { letters = c.letters_of.result; first = c.len.result; list = c.in_ok-number_list.field-0 } in
    let all_children : c.extend_from_slice.new.self.items ≡ children ++ added = c.in-Ok.ensures.items ∙ ap (λ (cs : List (ℕ × ℕ)). cs ++ added) c.reserve-2.ensures.items in
    let all_nodes : c.push.new.self.items ≡ nodes ++ node ∷ [] = c.in-Ok-push.ensures.items ∙ ap (λ (ns : List PackedNode). ns ++ node ∷ []) c.reserve.ensures.items in
    let same = ap length c.reserve-2.ensures.items in
    let first : c.len.result ≡ length children = omega (arith, same, c.len.ensures) in
    let row : Row = record { deltas = map text_delta c.args.deltas.items; children = added } in
    (λ i. map (row_with (all_children i) c.number_list.new.lists.keys) (all_nodes i))
    ∙ row_pushed children added lists c.number_list.new.lists.keys nodes node (map text_delta c.args.deltas.items) c.self.invariant.packed
    c.in_ok-number_list.ensures.grown c.in_ok-number_list.ensures.ok first c.letters_of.ensures
    ∙ ap (λ (rows : List Row). rows ++ row ∷ []) c.self.view_is
