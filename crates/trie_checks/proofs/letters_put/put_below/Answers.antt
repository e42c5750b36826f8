-- one child more
use Rattle.std.proofs.Common.{◌≡◌, ℕ, ◌<◌, ◌↔◌, ◌⊎◌, List, length, take, get_or, sym, ◌∙◌, ap, subst}
use Rattle.std.proofs.lemmas.List.{get_or_read}
use Rattle.trie_checks.specs.Bounds.{HasOne}
use Rattle.trie_checks.specs.NumberSets.{HasNumber}
use Rattle.trie_checks.proofs.OneMore.{one_taken, all_taken, told_more}
use Rattle.trie_checks.proofs.letters_put.put_below.Goals as goal

pub loop-child-preserved : goal.loop-child-preserved
loop-child-preserved c letter =
    let children = c.args.children.now in
    let letters = c.args.letters.now in
    let k = c.loop-child.child-index in
    let child = c.loop-child-item.result in
    let P : ℕ × ℕ → Type 0 = λ x. HasNumber (get_or letters x.1 0) letter in
    let within : c.number.result < length letters =
    subst (λ n. n < length letters) (sym (c.number.ensures ∙ ap (λ (x : ℕ × ℕ). x.1) c.loop-child-item.is)) (c.requires k child c.loop-child-test.true) in
    let read : c.index-letters-number.result ≡ get_or letters child.1 0 =
    get_or_read letters c.number.result c.index-letters-number.result within c.index-letters-number.is 0 ∙ ap (λ n. get_or letters n 0) c.number.ensures in
    one_taken (λ (xs : List (ℕ × ℕ)). HasNumber c.or-set.result letter ↔ HasOne P xs) children k child c.loop-child-test.true c.loop-child-item.is
    (told_more P (take k children) child (HasNumber c.loop-child.set letter) (HasNumber c.or-set.result letter) (c.loop-child.invariant letter)
    (subst (λ n. HasNumber c.or-set.result letter ↔ (HasNumber c.loop-child.set letter ⊎ HasNumber n letter)) read (c.or-set.ensures letter)))

pub returns : goal.returns
returns c letter =
    all_taken (λ (xs : List (ℕ × ℕ)). HasNumber c.loop-child.set letter ↔ HasOne (λ (x : ℕ × ℕ). HasNumber (get_or c.args.letters.now x.1 0) letter) xs) c.args.children.now c.loop-child.child-index c.loop-child-test.false
    (c.loop-child.invariant letter)
