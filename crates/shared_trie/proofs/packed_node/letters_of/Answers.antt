-- one child more has its letter besides; at the end the set has the letters of all, and both rise
use Rattle.std.proofs.Common.{◌≡◌, ◌+◌, ℕ, ◌↔◌, List, [], ◌∷◌, ◌++◌, map, take, sym, ◌∙◌, ap, subst}
use Rattle.std.specs.Prelude.{Contains}
use Rattle.std.proofs.lemmas.List.{take_all, take_more}
use Rattle.list_laws.proofs.Sorted.{not_Contains-nil}
use Rattle.shared_trie.specs.LetterSets.{letters_in}
use Rattle.shared_trie.proofs.LetterLists.{letters_more, letters_of_children, same_letters}
use Rattle.shared_trie.proofs.packed_node.letters_of.Goals as goal

pub loop-child-init : goal.loop-child-init
loop-child-init c other =
    (λ has. subst (λ (letters : List ℕ). Contains letters other) c.new-letters.ensures has, λ has. absurd (not_Contains-nil other has))

pub loop-child-preserved : goal.loop-child-preserved
loop-child-preserved c =
    let children = c.args.children.now in
    let k = c.loop-child.child-index in
    let child = c.child-item.result in
    let longer : take (k + 1) children ≡ take k children ++ child ∷ [] =
    take_more children k child c.loop-child-test.true ∙ ap (λ (x : ℕ × ℕ). take k children ++ x ∷ []) (sym c.child-item.is) in
    subst (λ (cs : List (ℕ × ℕ)). (other : ℕ) → Contains (letters_in c.with-letters.result) other ↔ Contains (map (λ (x : ℕ × ℕ). x.0) cs) other) (sym longer)
    (letters_more c.loop-child.letters c.with-letters.result (take k children) child c.with-letters.ensures c.loop-child.invariant)

pub returns : goal.returns
returns c =
    let children = c.args.children.now in
    same_letters c.loop-child.letters (map (λ (x : ℕ × ℕ). x.0) children) (letters_of_children children c.requires)
    (subst (λ (cs : List (ℕ × ℕ)). (other : ℕ) → Contains (letters_in c.loop-child.letters) other ↔ Contains (map (λ (x : ℕ × ℕ). x.0) cs) other)
    (take_all c.loop-child.child-index children c.loop-child-test.false) c.loop-child.invariant)
