-- the longest list is that of a node
use Rattle.std.proofs.Common.{◌≡◌, inl, inr, [], length, map, sym, ◌∙◌, ap, arith}
use Rattle.std.proofs.lemmas.List.{get_or_default, length-map}
use Rattle.annotated_trie.specs.Choices.{AnnotatedTrie, choices_of}
use Rattle.annotated_trie.specs.Views.{list_at}
use Rattle.annotated_trie.proofs.annotated.Annotated.most_choices.Goals as goal

pub returns-clause-greatest : goal.returns-clause-greatest
returns-clause-greatest c =
    let lists = c.self.inside.lists.items in
    let places = c.self.inside.places.items in
    let choices = map (list_at lists) places in
    let nodes : length c.self.inside.store.rows ≡ length c.args.self.now.trie.rows = ap (λ (tries : AnnotatedTrie). length tries.trie.rows) c.self.view_is in
    let count = c.self.invariant.0.count in
    let mapped = length-map places (list_at lists) in
    elim c.self.invariant.0.is_most.greatest [
      | inl none ↦ inl none
      | inr (list, among, long) ↦
          let (node, low, at) = among in
          let chosen : choices_of c.args.self.now node ≡ list =
          ap (λ (tries : AnnotatedTrie). choices_of tries node) (sym c.self.view_is) ∙ get_or_default choices node [] list low ∙ at in
          inr (node, omega (arith, low, mapped, count, nodes), ap length chosen ∙ long)
    ]
