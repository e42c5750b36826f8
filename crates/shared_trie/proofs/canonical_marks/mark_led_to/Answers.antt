-- A node without a mark has nothing to mark; with one, its children are marked.
use Rattle.std.proofs.Common.{◌≡◌, ◌+◌, ◌-◌, ◌++◌, ℕ, Bool, true, false, List, length, take, drop, get_or, sym, ap, ◌∙◌, subst, arith}
use Rattle.std.proofs.lemmas.List.{get_or_read, take_at}
use Rattle.lexicon_definitions.specs.Tries.{row_of}
use Rattle.shared_trie.specs.CanonicalNodes.{AreMarkedFrom, MarksChildren}
use Rattle.shared_trie.proofs.MarkSteps.{marked_with, marked_without, all_marked}
use Rattle.shared_trie.proofs.canonical_marks.mark_led_to.Goals as goal

pub loop-number-preserved-then-not-index : goal.loop-number-preserved-then-not-index
loop-number-preserved-then-not-index c =
    let trie = c.args.store.now in
    let marks = c.loop-number.marks.items in
    let node = c.loop-number.number - 1 in
    let (marked, low) = c.loop-number.invariant in
    let next : c.loop-number.number ≡ node + 1 = omega (arith, c.loop-number-test.true) in
    let none : get_or marks node false ≡ false = sym (subst (λ (mark : Bool). mark ≡ get_or marks node mark) c.if-not-index.true c.index.ensures) in
    (marked_without trie node marks (subst (λ (n : ℕ). AreMarkedFrom trie n marks) next marked) none, omega (arith, low))

pub loop-number-preserved : goal.loop-number-preserved
loop-number-preserved c =
    let trie = c.args.store.now in
    let marks = c.loop-number.marks.items in
    let node = c.loop-number.number - 1 in
    let new = c.mark_children.new.marks in
    let (marked, low) = c.loop-number.invariant in
    let some = c.loop-number-test.true in
    let next : c.loop-number.number ≡ node + 1 = omega (arith, some) in
    let here : get_or marks node false ≡ true = (let all = marked.count in sym (get_or_read marks node c.index.result.now (omega (arith, some, low, all)) c.index.ensures false) ∙ c.if-not-index.false) in
    let read = c.children_of.ensures.value ∙ ap (λ (n : ℕ). (row_of trie.rows n).children) c.node.ensures in
    let children : MarksChildren (row_of trie.rows node).children marks new =
    subst (λ (ms : List Bool). MarksChildren (row_of trie.rows node).children ms new) c.as_mut_slice.ensures.value
    (subst (λ (cs : List (ℕ × ℕ)). MarksChildren cs c.as_mut_slice.result.now new) read c.mark_children.ensures) in
    let count : length new ≡ length marks = children.count in
    let whole : take c.loop-number.marks.len (new ++ drop (length new) marks) ≡ new = take_at new (drop (length new) marks) c.loop-number.marks.len (count ∙ sym c.loop-number.marks.ok.0) in
    (subst (AreMarkedFrom trie node) (sym whole) (marked_with trie c.children_of.ensures.trie node marks new (omega (arith, some, low)) (subst (λ (n : ℕ). AreMarkedFrom trie n marks) next marked) here children), omega (arith, low))

pub returns : goal.returns
returns c =
    let (marked, low) = c.loop-number.invariant in
    let none : c.loop-number.number ≡ 0 = omega (arith, c.loop-number-test.false) in
    all_marked c.args.store.now c.loop-number.marks.items (subst (λ (n : ℕ). AreMarkedFrom c.args.store.now n c.loop-number.marks.items) none marked)
