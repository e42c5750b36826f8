-- one child more, whose height is read by its number
use Rattle.std.proofs.Common.{◌≡◌, ◌<◌, ◌+◌, ℕ, length, take, get_or, max, subst, sym, ◌∷◌, [], ◌++◌, List, ap, ◌∙◌, arith}
use Rattle.std.proofs.lemmas.List.{take_more}
use Rattle.shared_trie.specs.Heights.{IsHeightAbove}
use Rattle.shared_trie.proofs.HeightLemmas.{IsHeightAbove-push, ord_max-nat}
use Rattle.shared_trie.proofs.heights.height_above.Goals as goal

pub loop-child-preserved : goal.loop-child-preserved
loop-child-preserved c =
    let heights = c.args.heights.now in
    let items = c.args.children.now in
    let k = c.loop-child.child-index in
    let child = c.child-item.result in
    let longer : take (k + 1) items ≡ take k items ++ child ∷ [] = take_more items k child c.loop-child-test.true ∙ ap (λ (x : ℕ × ℕ). take k items ++ x ∷ []) (sym c.child-item.is) in
    let higher : c.max-height.result ≡ max c.loop-child.height (get_or heights child.1 0 + 1) =
    c.max-height.ensures ∙ ord_max-nat c.loop-child.height (get_or heights c.number.result 0 + 1) ∙ ap (λ (n : ℕ). max c.loop-child.height (get_or heights n 0 + 1)) c.number.ensures in
    let known : child.1 < length heights = subst (λ (x : ℕ × ℕ). x.1 < length heights) (sym c.child-item.is) (c.requires.known k child c.loop-child-test.true) in
    let low = c.requires.low child.1 known in
    record {
      value = subst (λ (h : ℕ). IsHeightAbove heights (take (k + 1) items) h) (sym higher) (subst (λ (cs : List (ℕ × ℕ)). IsHeightAbove heights cs (max c.loop-child.height (get_or heights child.1 0 + 1))) (sym longer) (IsHeightAbove-push heights (take k items) child c.loop-child.height c.loop-child.invariant.value));
      low = omega (arith, higher, low, known, c.loop-child.invariant.low);
    }
