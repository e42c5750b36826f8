-- One node more.
use Rattle.std.proofs.Common.{ℕ, ◌≡◌, ◌∙◌, ◌+◌, ◌++◌, [], ◌∷◌, map, take, sym, ap, subst, arith}
use Rattle.std.specs.Prelude.{All, Contains}
use Rattle.std.proofs.lemmas.List.{map_push, take_all, take_more}
use Rattle.std.proofs.lemmas.List.Elements.{All-contains, All-push}
use Rattle.lexicon_definitions.specs.Tries.{row_of}
use Rattle.trie_text_definitions.specs.PrintableRows.{IsPrintable}
use Rattle.shared_trie.specs.CanonicalNodes.{numbered_row, text_of_node}
use Rattle.shared_trie.proofs.canonical.lines_of.Goals as goal

pub line_of-requires-clause-children : goal.line_of-requires-clause-children
line_of-requires-clause-children c =
    All-contains (λ node. All (λ (child : ℕ × ℕ). Contains c.args.numbers.now.nodes child.1) (row_of c.args.store.now.rows node).children) c.args.level.now c.node-item.result c.requires.children
    (c.loop-node.node-index, omega arith, sym c.node-item.is)

pub loop-node-preserved : goal.loop-node-preserved
loop-node-preserved c =
    let rows = c.args.store.now.rows in
    let nodes = c.args.numbers.now.nodes in
    let front = take c.loop-node.node-index c.args.level.now in
    let node = c.node-item.result in
    let more : take (c.loop-node.node-index + 1) c.args.level.now ≡ front ++ node ∷ [] =
    take_more c.args.level.now c.loop-node.node-index node (omega arith) ∙ ap (λ (n : ℕ). front ++ n ∷ []) (sym c.node-item.is) in
    record {
      texts =
          c.in_ok-push.ensures.items ∙ (λ i. c.loop-node.invariant.texts i ++ c.in_ok-line_of.ensures.ok i ∷ [])
          ∙ sym (map_push (text_of_node rows nodes) front node) ∙ ap (map (text_of_node rows nodes)) (sym more);
      printable = subst (All (λ node. IsPrintable (numbered_row nodes (row_of rows node)))) (sym more)
          (All-push (λ node. IsPrintable (numbered_row nodes (row_of rows node))) front node c.loop-node.invariant.printable c.in_ok-line_of.ensures.printable);
    }

pub returns-clause-printable : goal.returns-clause-printable
returns-clause-printable c =
    subst (All (λ node. IsPrintable (numbered_row c.args.numbers.now.nodes (row_of c.args.store.now.rows node)))) (take_all c.loop-node.node-index c.args.level.now (omega arith)) c.loop-node.invariant.printable
