-- one number more
use Rattle.std.proofs.Common.{ℕ, ◌<◌, ◌≤◌, List, length, take, get_or, nat_cmp, ◌∙◌, ap, subst}
use Rattle.std.specs.Ordering.{ord_max}
use Rattle.std.proofs.lemmas.List.{get_or_default}
use Rattle.trie_checks.specs.Bounds.{IsGreatest}
use Rattle.trie_checks.proofs.OneMore.{ord_max-nat, one_taken, all_taken, greatest_next}
use Rattle.trie_checks.proofs.depths.Depths.farthest.Goals as goal

pub loop-least-preserved : goal.loop-least-preserved
loop-least-preserved c =
    let numbers = c.args.self.now.least.items in
    let k = c.loop-least.least-index in
    let number = get_or numbers k 0 in
    let so_far = c.loop-least.farthest in
    let value = c.as_slice-least-items.ensures.value in
    let below : k < length numbers = subst (λ (ns : List ℕ). k < length ns) value c.loop-least-test.true in
    one_taken (λ (xs : List ℕ). IsGreatest (λ n. n) xs c.max-farthest.result) numbers k number below (get_or_default numbers k 0 number below)
    (greatest_next (λ n. n) (take k numbers) number so_far c.max-farthest.result
    (c.max-farthest.ensures ∙ ap (λ (ns : List ℕ). ord_max nat_cmp so_far (get_or ns k 0)) value ∙ ord_max-nat so_far number) c.loop-least.invariant)

pub returns : goal.returns
returns c =
    let numbers = c.args.self.now.least.items in
    all_taken (λ (xs : List ℕ). IsGreatest (λ n. n) xs c.loop-least.farthest) numbers c.loop-least.least-index
    (subst (λ (ns : List ℕ). length ns ≤ c.loop-least.least-index) c.as_slice-least-items.ensures.value c.loop-least-test.false) c.loop-least.invariant
