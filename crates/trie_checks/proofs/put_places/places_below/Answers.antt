-- one child more
use Rattle.std.proofs.Common.{◌≡◌, ℕ, ◌+◌, ◌<◌, inl, inr, List, length, take, get_or, sym, ◌∙◌, ap, subst}
use Rattle.std.proofs.lemmas.List.{get_or_read}
use Rattle.trie_checks.specs.Bounds.{HasOne}
use Rattle.trie_checks.specs.NumberSets.{HasNumber}
use Rattle.trie_checks.proofs.OneMore.{one_taken, all_taken, HasOne-push}
use Rattle.trie_checks.proofs.put_places.places_below.Goals as goal

pub loop-child-preserved : goal.loop-child-preserved
loop-child-preserved c place =
    let children = c.args.children.now in
    let places = c.args.places.now in
    let k = c.loop-child.child-index in
    let child = c.loop-child-item.result in
    let P : ℕ × ℕ → Type 0 = λ x. HasNumber (get_or places x.1 0) (place + 1) in
    let within : c.number.result < length places =
    subst (λ n. n < length places) (sym (c.number.ensures ∙ ap (λ (x : ℕ × ℕ). x.1) c.loop-child-item.is)) (c.requires k child c.loop-child-test.true) in
    let read : c.index-places-number.result ≡ get_or places child.1 0 =
    get_or_read places c.number.result c.index-places-number.result within c.index-places-number.is 0 ∙ ap (λ n. get_or places n 0) c.number.ensures in
    one_taken (λ (xs : List (ℕ × ℕ)). HasOne P xs → HasNumber c.or-below.result place) children k child c.loop-child-test.true c.loop-child-item.is
    (λ h. (c.or-below.ensures place).1 (elim ((HasOne-push P (take k children) child).0 h) [
      | inl before ↦ inl (c.loop-child.invariant place before)
      | inr here ↦ inr ((c.lowered.ensures place).1 (subst (λ set. HasNumber set (place + 1)) (sym read) here))
    ]))

pub returns : goal.returns
returns c place =
    all_taken (λ (xs : List (ℕ × ℕ)). HasOne (λ (x : ℕ × ℕ). HasNumber (get_or c.args.places.now x.1 0) (place + 1)) xs → HasNumber c.loop-child.below place) c.args.children.now c.loop-child.child-index c.loop-child-test.false
    (c.loop-child.invariant place)
