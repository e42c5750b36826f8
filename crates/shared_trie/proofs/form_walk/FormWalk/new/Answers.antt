-- At the beginning no letter was walked, and there is room for as many as the node's height.
use Rattle.std.proofs.Common.{◌∙◌, sym, arith, reverse}
use Rattle.std.proofs.lemmas.Bool.{eqb-true}
use Rattle.std.proofs.lemmas.List.{nil_from_length}
use Rattle.lexicon_definitions.specs.Tries.{row_of}
use Rattle.shared_trie.specs.FormWalks.{forms_left, forms_from}
use Rattle.shared_trie.proofs.FormWalkSteps.{from_first, no_forms, no_deltas, none_way}
use Rattle.shared_trie.proofs.form_walk.FormWalk.new.Goals as goal

pub invariant_of-result : goal.invariant_of-result
invariant_of-result c =
    let fit = c.in_ok-letters.ensures.capacity in
    let fits = c.in_ok-levels.ensures.capacity in (
      c.children_of-children.ensures.trie.rows,
      rw (c.in_ok-letters.ensures.items, c.in_ok-levels.ensures.items)
          (none_way c.args.store.now.rows c.args.node c.height-most.result _ _ (omega (arith, fit)) (omega (arith, fits))),
    )

pub returns-then-is_empty : goal.returns-then-is_empty
returns-then-is_empty c =
    let rows = c.args.store.now.rows in
    let children = c.children_of-children.result.now in
    let none = no_deltas c.accepts.result (row_of rows c.args.node).deltas c.if-not-accepts.true c.accepts.ensures.1 in
    let no_children = sym c.children_of-children.ensures.value ∙ nil_from_length children (eqb-true _ 0 (sym c.is_empty.ensures ∙ c.if-is_empty.true)) in
    record {
      ok = (λ i. forms_left rows (c.in_ok-letters.ensures.items i) (reverse (c.in_ok-levels.ensures.items i)))
          ∙ no_forms rows c.children_of-children.ensures.trie.rows c.args.node c.requires none no_children;
    }

pub invariant_of-result-2 : goal.invariant_of-result-2
invariant_of-result-2 c = (c.children_of-children.ensures.trie.rows, c.go_down.ensures.at)

pub returns : goal.returns
returns c =
    let rows = c.args.store.now.rows in
    record {
      ok = c.go_down.ensures.left ∙ (λ i. forms_from rows (c.in_ok-letters.ensures.items i) (reverse (c.in_ok-levels.ensures.items i)) c.args.node)
          ∙ from_first rows c.args.node;
    }
