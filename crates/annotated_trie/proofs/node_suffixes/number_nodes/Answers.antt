-- one node more
use Rattle.std.proofs.Common.{ℕ, List, subst}
use Rattle.annotated_trie.specs.Suffixes.{AddsNode, AreSuffixesAt}
use Rattle.annotated_trie.proofs.NodeSteps.{AreSetsAt-push}
use Rattle.annotated_trie.proofs.node_suffixes.number_nodes.Goals as goal

pub loop-number-preserved : goal.loop-number-preserved
loop-number-preserved c =
    let suffixes = c.args.suffixes.now.keys in
    let rows = c.args.store.now.rows in
    let old = c.loop-number.nodes in
    let new = c.add_node.new.nodes in
    let numbers = c.suffixes_at.new.numbers.items in
    let at_node : AreSuffixesAt suffixes rows c.loop-number.number numbers = subst (λ (n : ℕ). AreSuffixesAt suffixes rows n numbers) c.node.ensures c.in_ok-suffixes_at.ensures.ok in
    let adds : AddsNode old.sets.keys new.sets.keys old.places.items new.places.items numbers =
    subst (λ (items : List ℕ). AddsNode old.sets.keys new.sets.keys old.places.items new.places.items items) c.as_slice.ensures.value c.in_ok-add_node.ensures.ok in
    AreSetsAt-push suffixes rows c.loop-number.number old.sets.keys new.sets.keys old.places.items new.places.items numbers c.loop-number.invariant adds at_node
