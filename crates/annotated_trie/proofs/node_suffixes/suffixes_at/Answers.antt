-- one child more, whose suffixes are known since it has a smaller number
use Rattle.std.proofs.Common.{◌≡◌, ◌≢◌, ◌+◌, ◌⊎◌, ◌↔◌, ℕ, List, [], ◌∷◌, ◌++◌, length, take, get_or, sym, ◌∙◌, ap, subst, arith}
use Rattle.std.specs.Prelude.{Contains}
use Rattle.std.proofs.lemmas.List.{take_all, take_more}
use Rattle.lexicon_definitions.specs.Tries.{row_of}
use Rattle.annotated_trie.specs.Suffixes.{GoesOnFrom}
use Rattle.annotated_trie.proofs.NodeSteps.{AreSuffixesAt-children, GoesOnFrom-push, child_before, place_read, set_read}
use Rattle.annotated_trie.proofs.node_suffixes.suffixes_at.Goals as goal

pub index-place-requires : goal.index-place-requires
index-place-requires c =
    let before = child_before c.args.store.now.rows c.args.node c.loop-letter.letter-index c.children-children.result.now c.loop-letter-item.result c.requires.trie.rows c.requires.node
    c.children-children.ensures.value c.loop-letter-test.true c.loop-letter-item.is in
    let count = c.requires.known.count in
    let number = c.number.ensures in
    omega (arith, before, count, number)

pub bounds-as_slice-place : goal.bounds-as_slice-place
bounds-as_slice-place c =
    let places = c.args.nodes.now.places.items in
    let child = c.loop-letter-item.result in
    let before = child_before c.args.store.now.rows c.args.node c.loop-letter.letter-index c.children-children.result.now child c.requires.trie.rows c.requires.node
    c.children-children.ensures.value c.loop-letter-test.true c.loop-letter-item.is in
    let count = c.requires.known.count in
    let read = place_read places c.number.result child.1 c.index-place.result.now c.index-place.ensures c.number.ensures (omega (arith, before, count)) in
    let within = c.requires.known.within child.1 before in
    let long = ap (λ lists. length lists) c.as_slice.ensures.keys in
    omega (arith, read, within, long)

pub loop-letter-preserved : goal.loop-letter-preserved
loop-letter-preserved c =
    let suffixes = c.args.suffixes.now.keys in
    let rows = c.args.store.now.rows in
    let sets = c.args.nodes.now.sets.keys in
    let places = c.args.nodes.now.places.items in
    let k = c.loop-letter.letter-index in
    let children = c.children-children.result.now in
    let child = c.loop-letter-item.result in
    let before = child_before rows c.args.node k children child c.requires.trie.rows c.requires.node c.children-children.ensures.value c.loop-letter-test.true c.loop-letter-item.is in
    let count = c.requires.known.count in
    let read = place_read places c.number.result child.1 c.index-place.result.now c.index-place.ensures c.number.ensures (omega (arith, before, count)) in
    let rests = set_read sets c.as_slice.result.now c.index-place.result.now (get_or places child.1 0) c.index-as_slice-place.result c.as_slice-rests.result.now c.as_slice.ensures.keys c.index-as_slice-place.is read
    (c.requires.known.within child.1 before) c.as_slice-rests.ensures.value in
    let longer : take (k + 1) children ≡ take k children ++ child ∷ [] =
    take_more children k child c.loop-letter-test.true ∙ ap (λ (x : ℕ × ℕ). take k children ++ x ∷ []) (sym c.loop-letter-item.is) in
    subst (λ (cs : List (ℕ × ℕ)). (number : ℕ) → Contains c.add_longer.new.numbers.items number ↔ (((number ≡ 0) × ((row_of rows c.args.node).deltas ≢ [])) ⊎ GoesOnFrom suffixes sets places cs number)) (sym longer)
    (GoesOnFrom-push suffixes sets places (take k children) child c.as_slice-rests.result.now c.loop-letter.numbers.items c.add_longer.new.numbers.items (λ number. (number ≡ 0) × ((row_of rows c.args.node).deltas ≢ []))
    rests c.loop-letter.invariant c.in_ok-add_longer.ensures.ok)

pub returns : goal.returns
returns c =
    let suffixes = c.args.suffixes.now.keys in
    let rows = c.args.store.now.rows in
    let sets = c.args.nodes.now.sets.keys in
    let places = c.args.nodes.now.places.items in
    let numbers = c.loop-letter.numbers.items in
    let all : take c.loop-letter.letter-index c.children-children.result.now ≡ (row_of rows c.args.node).children =
    take_all c.loop-letter.letter-index c.children-children.result.now c.loop-letter-test.false ∙ c.children-children.ensures.value in
    let members = subst (λ (cs : List (ℕ × ℕ)). (number : ℕ) → Contains numbers number ↔ (((number ≡ 0) × ((row_of rows c.args.node).deltas ≢ [])) ⊎ GoesOnFrom suffixes sets places cs number)) all c.loop-letter.invariant in
    record { ok = AreSuffixesAt-children suffixes rows sets places c.args.node numbers c.requires.trie.rows c.requires.node c.requires.known members }
