-- The next letter of the line leads from the front's node to that of the next front, or nowhere (`Walks`).
use Rattle.std.proofs.Common.{◌≡◌, ◌+◌, ◌<◌, ℕ, List, length, get_or, refl, sym, ap, subst, ◌∙◌, arith}
use Rattle.phoneme.specs.declared.line.Line.{Line}
use Rattle.lexicon_definitions.specs.Tries.{Trie, child_in}
use Rattle.annotated_trie.specs.Choices.{AnnotatedTrie}
use Rattle.search_frames.specs.Frames.{numbered_of}
use Rattle.summary_chart.proofs.FrontKeys.{front_node}
use Rattle.summary_chart.proofs.Walks.{none_past, no_longer, longer_near}
use Rattle.summary_chart.proofs.walking.longer_front.Goals as goal

pub returns-then-end-limit-clause-front : goal.returns-then-end-limit-clause-front
returns-then-end-limit-clause-front g c =
    let searched = c.args.site.lexicon.now in
    none_past searched c.requires.site.searched c.args.site.line.now (numbered_of searched c.args.site.place.now) c.args.front.now.phase c.args.limit c.args.front.now.taken
    c.if-end-limit.true

pub child-requires : goal.child-requires
child-requires g c =
    let searched = c.args.site.lexicon.now in
    let front = c.args.front.now in
    subst (λ (t : Trie). front.node < length t.rows) (sym (c.store-store.ensures ∙ ap (λ (t : AnnotatedTrie). t.trie) c.tries.ensures.value))
    (front_node searched c.requires.site.searched c.args.site.line.now (numbered_of searched c.args.site.place.now) front.phase front.taken front.node c.requires.front)

pub returns-in_default-clause-front : goal.returns-in_default-clause-front
returns-in_default-clause-front g c =
    let searched = c.args.site.lexicon.now in
    let line = c.args.site.line.now in
    let here = numbered_of searched c.args.site.place.now in
    let front = c.args.front.now in
    let trie : c.store-store.result.now ≡ searched.tries.trie = c.store-store.ensures ∙ ap (λ (t : AnnotatedTrie). t.trie) c.tries.ensures.value in
    let letter = c.index-as_slice-end.result in
    let whole : c.as_slice.result.now ≡ line.letters = c.as_slice.ensures.value ∙ ap (λ (l : Line). l.letters) c.line.view_is in
    let next : letter ≡ get_or line.letters (here.at + front.taken) letter = c.index-as_slice-end.is ∙ ap (λ (letters : List ℕ). get_or letters (here.at + front.taken) letter) whole in
    let near = c.requires.near in
    let more = c.if-end-limit.false in
    let low : here.at + front.taken < length line.letters = omega (arith, near, more, c.requires.within) in
    let child = ap (λ (t : Trie). child_in t.rows front.node letter) trie in
    no_longer searched c.requires.site.searched line here front.phase c.args.limit front.taken front.node c.requires.front letter low next
    (sym child ∙ sym c.child.ensures.value ∙ c.in_default.is)

pub returns-clause-front : goal.returns-clause-front
returns-clause-front g c =
    let searched = c.args.site.lexicon.now in
    let line = c.args.site.line.now in
    let here = numbered_of searched c.args.site.place.now in
    let front = c.args.front.now in
    let trie : c.store-store.result.now ≡ searched.tries.trie = c.store-store.ensures ∙ ap (λ (t : AnnotatedTrie). t.trie) c.tries.ensures.value in
    let letter = c.index-as_slice-end.result in
    let whole : c.as_slice.result.now ≡ line.letters = c.as_slice.ensures.value ∙ ap (λ (l : Line). l.letters) c.line.view_is in
    let next : letter ≡ get_or line.letters (here.at + front.taken) letter = c.index-as_slice-end.is ∙ ap (λ (letters : List ℕ). get_or letters (here.at + front.taken) letter) whole in
    let near = c.requires.near in
    let more = c.if-end-limit.false in
    let low : here.at + front.taken < length line.letters = omega (arith, near, more, c.requires.within) in
    let child = ap (λ (t : Trie). child_in t.rows front.node letter) trie in
    longer_near searched c.requires.site.searched line here front.phase c.args.limit front.taken front.node c.requires.front letter low next
    (record { phase = front.phase; taken = front.taken + 1; node = c.in-Some.node }) refl refl (omega (arith, near, more))
    (sym child ∙ sym c.child.ensures.value ∙ c.in-Some.is)
