-- One child more is marked.
use Rattle.std.proofs.Common.{◌<◌, ◌++◌, [], ◌∷◌, ℕ, true, List, length, take, sym, ap, ◌∙◌, subst, arith}
use Rattle.std.specs.Prelude.{slice_set}
use Rattle.std.proofs.lemmas.List.{length-set, take_more}
use Rattle.std.proofs.lemmas.List.Elements.{All-contains}
use Rattle.shared_trie.specs.CanonicalNodes.{MarksChildren}
use Rattle.shared_trie.proofs.MarkSteps.{IsMarkedToo, mark_set, child_marked}
use Rattle.shared_trie.proofs.canonical_marks.mark_children.Goals as goal

pub loop-child-preserved : goal.loop-child-preserved
loop-child-preserved c =
    let child = c.child-item.result in
    let marks = c.loop-child.marks in
    let children = c.args.children.now in
    let place = c.loop-child.child-index in
    let new = slice_set marks c.number.result true in
    let count = c.loop-child.invariant.count in
    let within : child.1 < length c.args.marks.now =
    All-contains (λ (c' : ℕ × ℕ). c'.1 < length c.args.marks.now) children child c.requires (place, omega arith, sym c.child-item.is) in
    let set : IsMarkedToo marks child.1 new = subst (λ (k : ℕ). IsMarkedToo marks child.1 (slice_set marks k true)) (sym c.number.ensures) (mark_set marks child.1 (omega (arith, within, count))) in
    subst (λ (cs : List (ℕ × ℕ)). MarksChildren cs c.args.marks.now new) (sym (take_more children place child (omega arith) ∙ ap (λ (c' : ℕ × ℕ). take place children ++ c' ∷ []) (sym c.child-item.is)))
    (child_marked (take place children) child c.args.marks.now marks new c.loop-child.invariant (length-set marks c.number.result true) set)
