-- One more node is counted.
use Rattle.std.proofs.Common.{ℕ, List, [], ◌∷◌, ◌++◌, length, map, get_or, refl, ◌∙◌, ap, arith}
use Rattle.lexicon_definitions.specs.Tries.{row_of}
use Rattle.lexicon_text_definitions.specs.LexiconTexts.{text_of_lines}
use Rattle.trie_text_definitions.specs.NodeLines.{node_line}
use Rattle.shared_trie.specs.CanonicalNodes.{numbered_row}
use Rattle.lexicon_file.proofs.LinesWritten.{one_counted}
use Rattle.lexicon_file.proofs.writing_nodes.nodes_len.Goals as goal

pub loop-node-preserved : goal.loop-node-preserved
loop-node-preserved c =
    let same = c.nodes-node-items.ensures in
    let within = ap (λ (nodes : List ℕ). length nodes) same in
    let added = node_line (numbered_row c.args.numbers.now.nodes (row_of c.args.store.now.rows c.node-item.result)) ++ 10 ∷ [] in
    let count = ap (λ (bytes : List ℕ). length bytes) (c.in_ok-push_node.ensures.ok ∙ ap (λ (before : List ℕ). before ++ added) c.clear.ensures.items) in
    let len = c.len-len.ensures in (
      one_counted (λ nodes. text_of_lines (map node_line (map (λ node. numbered_row c.args.numbers.now.nodes (row_of c.args.store.now.rows node)) nodes))) c.args.numbers.now.nodes
          c.loop-node.node-index c.node-item.result added c.loop-node.len _ _ (omega (arith, within))
          (c.node-item.is ∙ ap (λ (nodes : List ℕ). get_or nodes c.loop-node.node-index c.node-item.result) same) refl (omega (arith, len, count)) c.loop-node.invariant.0,
      omega arith,
    )
