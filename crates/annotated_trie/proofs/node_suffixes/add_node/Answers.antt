-- the list was there, or a copy of it goes last
use Rattle.std.proofs.Common.{◌≡◌, ℕ, List, nat_eq, [], ◌∷◌, ◌++◌, sym, ◌∙◌, subst}
use Rattle.std.specs.Cmp.Lexicographic.{pointwise}
use Rattle.std.specs.List.{list_any}
use Rattle.annotated_trie.specs.Suffixes.{AddsNode}
use Rattle.annotated_trie.proofs.NodeSteps.{AddsNode-found, AddsNode-insert}
use Rattle.annotated_trie.proofs.node_suffixes.add_node.Goals as goal

pub returns-in-Some : goal.returns-in-Some
returns-in-Some c =
    let nodes = c.args.nodes.now in
    record {
      ok = AddsNode-found nodes.sets.keys c.args.numbers.now nodes.places.items c.push.new.self.items c.in-Some.place nodes.places
          (sym c.get_index_of.ensures.index ∙ c.in-Some.is) c.in_ok-push.ensures.items;
    }

pub returns : goal.returns
returns c =
    let nodes = c.args.nodes.now in
    let old = nodes.sets.keys in
    let new = c.insert_full.new.self.keys in
    let places = c.push-2.new.self.items in
    let copy = c.in_ok-copy.copy in
    let pushed : places ≡ nodes.places.items ++ c.in-Ok.place ∷ [] = c.in_ok-push-2.ensures.items in
    record {
      ok = subst (λ (items : List ℕ). AddsNode old new nodes.places.items places items) c.in_ok-copy.ensures.items
          (AddsNode-insert old new copy nodes.places.items places c.in-Ok.place
          (list_any (λ list. pointwise nat_eq copy.items list.items) old) c.in-Ok.ensures.keys c.in-Ok.ensures.stored pushed);
    }
