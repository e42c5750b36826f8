-- the place goes last in the group of its number
use Rattle.std.proofs.Common.{◌≡◌, ◌<◌, ◌+◌, ℕ, List, [], ◌∷◌, ◌++◌, length, take, get_or, set, refl, sym, ◌∙◌, ap, subst, arith}
use Rattle.std.proofs.lemmas.List.{length-set, length-take-le, take_more}
use Rattle.annotated_trie.specs.Suffixes.{AreGroups}
use Rattle.annotated_trie.specs.Views.{list_at}
use Rattle.annotated_trie.proofs.GroupLaws.{AreGroups-none, AreGroups-push}
use Rattle.annotated_trie.proofs.ListPlaces.{list_at-read}
use Rattle.annotated_trie.proofs.groups.group_places.Goals as goal

pub loop-number-init : goal.loop-number-init
loop-number-init c = record {
  count = c.in_ok-groups.ensures.count;
  place = refl;
  groups = AreGroups-none c.in_ok-groups.groups.items c.in_ok-groups.ensures.none;
}

pub loop-number-preserved : goal.loop-number-preserved
loop-number-preserved c =
    let k = c.loop-number.number-index in
    let numbers = c.args.numbers.now in
    let groups = c.loop-number.groups.items in
    let number = get_or numbers k 0 in
    let count = c.loop-number.invariant.count in
    let here = c.loop-number.invariant.place in
    let bound = c.requires.within k 0 c.loop-number-test.true in
    let low : number < length groups = omega (arith, count, bound) in
    let so_far : length (take k numbers) ≡ k = length-take-le k numbers (let l = c.loop-number-test.true in omega (arith, l)) in
    let read : list_at groups number ≡ c.index_mut.result.now.items = list_at-read groups number c.index_mut.result.now low c.index_mut.ensures.value in
    let place : c.loop-number.place + 1 ≡ length (take k numbers) + 1 = omega (arith, here, so_far) in
    let pushed : c.push.new.self.items ≡ list_at groups number ++ (length (take k numbers) + 1) ∷ [] =
    c.in_ok-push.ensures.items ∙ ap (λ (xs : List ℕ). xs ++ (c.loop-number.place + 1) ∷ []) (sym read) ∙ ap (λ (n : ℕ). list_at groups number ++ n ∷ []) place in
    record {
      count = length-set groups number c.push.new.self ∙ count;
      place = omega (arith, here);
      groups = subst (λ (ns : List ℕ). AreGroups ns (set groups number c.push.new.self)) (sym (take_more numbers k 0 c.loop-number-test.true))
          (AreGroups-push (take k numbers) number groups c.push.new.self c.loop-number.invariant.groups low pushed);
    }
