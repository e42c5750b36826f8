-- a node before which no letters are put so far, nor one letter farther, keeps its set, which is empty; another gets the letters of its deltas
-- and of its children
use Rattle.std.proofs.Common.{◌≡◌, ℕ, ◌+◌, ◌-◌, ◌<◌, ◌↔◌, List, length, map, get_or, sym, ◌∙◌, ap, subst, arith}
use Rattle.std.proofs.lemmas.List.{get_or_read}
use Rattle.lexicon_definitions.specs.Deltas.{Delta as TextDelta}
use Rattle.lexicon_definitions.specs.Tries.{row_of}
use Rattle.form_tags.specs.Analyses.{text_delta}
use Rattle.trie_checks.specs.Bounds.{HasOne}
use Rattle.trie_checks.specs.NumberSets.{HasNumber}
use Rattle.trie_checks.specs.LettersPut.{PutsLetter, AllowsAll}
use Rattle.trie_checks.proofs.PutSteps.{AreSetsBetween, pass_over, pass_sets}
use Rattle.trie_checks.proofs.letters_put.move_up.Goals as goal

pub loop-number-preserved-then-stays_empty : goal.loop-number-preserved-then-stays_empty
loop-number-preserved-then-stays_empty c =
    let rows = c.args.store.now.rows in
    let place = c.args.place in
    let node = c.loop-number.number - 1 in
    let one : c.loop-number.number ≡ node + 1 = omega (arith, c.loop-number-test.true) in
    let low : node < length rows = omega (arith, c.loop-number-test.true, c.loop-number.auto.number, c.len-number.ensures.value) in
    let empty = c.stays_empty.ensures c.if-stays_empty.true in
    let many = c.requires.places.length_is in
    let read = get_or_read c.args.places.now node c.index-places-number.result (omega (arith, low, many)) c.index-places-number.is 0 in
    let allows : AllowsAll rows node c.index-places-number.result = subst (AllowsAll rows node) (sym read) (c.requires.places.each node low) in
    pass_over rows c.len-number.ensures.trie.rows (place + 1) node c.loop-number.letters low (λ letter put. empty.0 (allows place letter put)) (λ letter put. empty.1 (allows (place + 1) letter put))
    (subst (λ n. AreSetsBetween rows (place + 1) n c.loop-number.letters) one c.loop-number.invariant)

pub loop-number-preserved : goal.loop-number-preserved
loop-number-preserved c =
    let rows = c.args.store.now.rows in
    let before = c.args.place + 1 in
    let node = c.loop-number.number - 1 in
    let sets = c.loop-number.letters in
    let one : c.loop-number.number ≡ node + 1 = omega (arith, c.loop-number-test.true) in
    let low : node < length rows = omega (arith, c.loop-number-test.true, c.loop-number.auto.number, c.len-number.ensures.value) in
    let at : c.node-node.result ≡ node = c.node-node.ensures in
    let children : c.children-children.result.now ≡ (row_of rows node).children = c.children-children.ensures.value ∙ ap (λ n. (row_of rows n).children) at in
    let deltas : map text_delta c.deltas.result.now ≡ (row_of rows node).deltas = c.deltas.ensures ∙ ap (λ n. (row_of rows n).deltas) at in
    let own = c.put_by-own.result in
    let below = c.put_below.result in
    pass_sets rows c.len-number.ensures.trie.rows before node own below c.or.result sets low
    (λ letter. subst (λ (ds : List TextDelta). HasNumber own letter ↔ HasOne (PutsLetter before letter) ds) deltas (c.put_by-own.ensures letter))
    (λ letter. subst (λ (cs : List (ℕ × ℕ)). HasNumber below letter ↔ HasOne (λ (child : ℕ × ℕ). HasNumber (get_or sets child.1 0) letter) cs) children (c.put_below.ensures letter))
    c.or.ensures (subst (λ n. AreSetsBetween rows before n sets) one c.loop-number.invariant)
