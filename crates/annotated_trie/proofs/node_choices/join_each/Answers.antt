-- the list of one set more
use Rattle.std.proofs.Common.{◌≡◌, ◌+◌, [], ◌∷◌, ◌++◌, take, sym, ◌∙◌, ap, subst, rules}
use Rattle.std.specs.Global.{Vec}
use Rattle.std.proofs.lemmas.List.{take_more}
use Rattle.annotated_trie.specs.Suffixes.{AreListsFrom, IsListFrom}
use Rattle.annotated_trie.proofs.GroupLaws.{AreListsFrom-push}
use Rattle.annotated_trie.proofs.node_choices.join_each.Goals as goal

pub loop-numbers-preserved : goal.loop-numbers-preserved
loop-numbers-preserved c =
    let k = c.loop-numbers.numbers-index in
    let sets = c.args.sets.now in
    let groups = c.args.groups.now in
    let numbers = c.numbers-item.result in
    let list = c.in_ok-join_groups.field-0 in
    let longer : take (k + 1) sets ≡ take k sets ++ numbers ∷ [] =
    take_more sets k numbers c.loop-numbers-test.true ∙ ap (λ (x : Vec _). take k sets ++ x ∷ []) (sym c.numbers-item.is) in
    let is : IsListFrom groups numbers.items list.items = subst (λ ns. IsListFrom groups ns list.items) c.as_slice.ensures.value c.in_ok-join_groups.ensures.ok in
    let pushed : c.push.new.self.items ≡ c.loop-numbers.lists.items ++ list ∷ [] = search rules in
    subst (λ ss. AreListsFrom groups ss c.push.new.self.items) (sym longer)
    (subst (AreListsFrom groups (take k sets ++ numbers ∷ [])) (sym pushed) (AreListsFrom-push groups (take k sets) c.loop-numbers.lists.items numbers list c.loop-numbers.invariant is))
