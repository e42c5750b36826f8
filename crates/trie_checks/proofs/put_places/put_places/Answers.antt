-- one node more, whose children are known since they have smaller numbers
use Rattle.std.proofs.Common.{◌≡◌, ℕ, ◌+◌, ◌<◌, List, [], ◌∷◌, ◌++◌, length, map, get_or, sym, ◌∙◌, ap, subst, arith}
use Rattle.lexicon_definitions.specs.Deltas.{Delta as TextDelta}
use Rattle.lexicon_definitions.specs.Tries.{row_of}
use Rattle.form_tags.specs.Analyses.{text_delta}
use Rattle.trie_checks.specs.Bounds.{HasOne}
use Rattle.trie_checks.specs.NumberSets.{HasNumber}
use Rattle.trie_checks.specs.LettersPut.{ArePlaces}
use Rattle.trie_checks.proofs.PlaceSteps.{places_next}
use Rattle.trie_checks.proofs.put_places.put_places.Goals as goal

pub loop-number-preserved : goal.loop-number-preserved
loop-number-preserved c =
    let rows = c.args.store.now.rows in
    let node = c.loop-number.number in
    let places = c.loop-number.places.items in
    let own = c.places_of.result in
    let below = c.places_below-below.result in
    let at : c.node-node.result ≡ node = c.node-node.ensures in
    let low : node < length rows = omega (arith, c.loop-number-test.true, c.len-number-end.ensures.value) in
    let children : c.children-children.result.now ≡ (row_of rows node).children = c.children-children.ensures.value ∙ ap (λ n. (row_of rows n).children) at in
    let deltas : map text_delta c.deltas.result.now ≡ (row_of rows node).deltas = c.deltas.ensures ∙ ap (λ n. (row_of rows n).deltas) at in
    let pushed : c.push.new.self.items ≡ places ++ c.or.result ∷ [] = c.in_ok-push.ensures.items in
    subst (ArePlaces rows (node + 1)) (sym pushed) (places_next rows node places own below c.or.result c.len.ensures.trie.rows c.requires low c.loop-number.invariant
    (λ place near. subst (λ (ds : List TextDelta). HasOne (λ (d : TextDelta). d.cut ≡ place + 1) ds → HasNumber own place) deltas (c.places_of.ensures place near))
    (λ place.
    subst (λ (ps : List ℕ). HasOne (λ (child : ℕ × ℕ). HasNumber (get_or ps child.1 0) (place + 1)) (row_of rows node).children → HasNumber below place) c.as_slice.ensures.value
    (subst (λ (cs : List (ℕ × ℕ)). HasOne (λ (child : ℕ × ℕ). HasNumber (get_or c.as_slice.result.now child.1 0) (place + 1)) cs → HasNumber below place) children (c.places_below-below.ensures place)))
    c.or.ensures)

pub returns : goal.returns
returns c =
    let rows = c.args.store.now.rows in
    let all : c.loop-number.number ≡ length rows = omega (arith, c.loop-number-test.false, c.loop-number.auto.number-end, c.len-number-end.ensures.value) in
    record { ok = subst (λ n. ArePlaces rows n c.loop-number.places.items) all c.loop-number.invariant }
