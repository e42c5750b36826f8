-- the list of one place more, read by its place
use Rattle.std.proofs.Common.{◌≡◌, ◌<◌, ◌^◌, ℕ, List, [], ◌∷◌, ◌++◌, length, map, take, get_or, max, sym, ◌∙◌, ap, subst, arith, rules}
use Rattle.std.proofs.lemmas.List.{map_more}
use Rattle.std.proofs.lemmas.Bool.Decides.{nat_tests}
use Rattle.std.specs.Ordering.{nat_cmp, ord_max}
use Rattle.annotated_trie.specs.Views.{IsMostRules, list_at}
use Rattle.annotated_trie.proofs.GroupLaws.{IsMostRules-push}
use Rattle.annotated_trie.proofs.ListPlaces.{list_at-read}
use Rattle.annotated_trie.proofs.node_choices.longest_at.Goals as goal

-- the program's maximum of two numbers
ord_max-nat : (m n : ℕ) → ord_max nat_cmp m n ≡ max m n
ord_max-nat m n = grind (arith, nat_tests)

pub overflow_cast-len : goal.overflow_cast-len
overflow_cast-len c =
    let lists = c.args.lists.now in
    let place = get_or c.args.places.now c.loop-place.place-index 0 in
    let low = c.requires.within c.loop-place.place-index 0 c.loop-place-test.true in
    let read = list_at-read lists place c.index-lists-place.result low c.index-lists-place.is in
    let few = c.requires.few c.loop-place.place-index 0 c.loop-place-test.true in
    let same = ap (λ (xs : List ℕ). length xs) read in
    let len = c.len.ensures in
    let fits : c.len.result < 2 ^ 32 = omega (arith, few, same, len) in
    search (rules, fits)

pub loop-place-preserved : goal.loop-place-preserved
loop-place-preserved c =
    let lists = c.args.lists.now in
    let places = c.args.places.now in
    let k = c.loop-place.place-index in
    let place = get_or places k 0 in
    let low = c.requires.within k 0 c.loop-place-test.true in
    let read = list_at-read lists place c.index-lists-place.result low c.index-lists-place.is in
    let len : c.len.result ≡ length c.index-lists-place.result.items = let e = c.len.ensures in omega (arith, e) in
    let long : c.max-longest.result ≡ max c.loop-place.longest (length (list_at lists place)) =
    c.max-longest.ensures ∙ ord_max-nat c.loop-place.longest c.len.result ∙ ap (λ (n : ℕ). max c.loop-place.longest n) (len ∙ ap (λ (xs : List ℕ). length xs) (sym read)) in
    subst (λ ls. IsMostRules ls c.max-longest.result) (sym (map_more (list_at lists) places k 0 c.loop-place-test.true))
    (subst (IsMostRules (map (list_at lists) (take k places) ++ list_at lists place ∷ [])) (sym long)
    (IsMostRules-push (map (list_at lists) (take k places)) (list_at lists place) c.loop-place.longest c.loop-place.invariant))
