-- a node's list is no longer than the longest, whose length fits 32 bits
use Rattle.std.proofs.Common.{◌≡◌, ◌<◌, [], length, get_or, map, ap, arith}
use Rattle.std.proofs.lemmas.Grind.{common_steps}
use Rattle.std.proofs.lemmas.List.{length-map}
use Rattle.annotated_trie.specs.Choices.{AnnotatedTrie, choices_of}
use Rattle.annotated_trie.specs.Views.{list_at}
use Rattle.annotated_trie.proofs.annotated.Annotated.choices.Goals as goal

pub returns-clause-few : goal.returns-clause-few
returns-clause-few c =
    let lists = c.self.inside.lists.items in
    let places = c.self.inside.places.items in
    let nodes : length c.self.inside.store.rows ≡ length c.args.self.now.trie.rows = ap (λ (tries : AnnotatedTrie). length tries.trie.rows) c.self.view_is in
    let count = c.self.invariant.0.count in
    let mapped = length-map places (list_at lists) in
    let low : c.args.node < length (map (list_at lists) places) = omega (arith, nodes, count, mapped, c.requires) in
    let most = c.self.invariant.0.is_most.above c.args.node [] low in
    let few = c.self.invariant.0.few in
    let here : c.as_slice.result.now ≡ choices_of c.args.self.now c.args.node = grind (arith, common_steps) in
    let long : length (get_or (map (list_at lists) places) c.args.node []) ≡ length (choices_of c.args.self.now c.args.node) = ap (λ (tries : AnnotatedTrie). length (choices_of tries c.args.node)) c.self.view_is in
    let same = ap length here in
    omega (arith, most, few, long, same)
