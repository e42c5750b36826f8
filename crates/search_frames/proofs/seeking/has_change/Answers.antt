-- No change is possible where a form ends, and a rule where it is a choice at the node.
use Rattle.std.proofs.Common.{◌≡◌, ◌≢◌, ◌+◌, ◌↔◌, [], length, get_or, List, ℕ, ◌∙◌, ap, subst, arith}
use Rattle.std.specs.Prelude.{IsTrue}
use Rattle.std.proofs.lemmas.List.{get_or_default}
use Rattle.text_definitions.specs.Lines.{Line}
use Rattle.lexicon_definitions.specs.Tries.{Trie, row_of}
use Rattle.derivation.specs.Steps.{key_meant}
use Rattle.annotated_trie.specs.Choices.{AnnotatedTrie}
use Rattle.search_frames.specs.Frames.{numbered_of}
use Rattle.search_frames.proofs.PossibleKeys.{reached_there}
use Rattle.search_frames.proofs.SoughtKeys.{refused_unchanged, refused_choice, unchanged_there, choice_there}
use Rattle.search_frames.proofs.seeking.has_change.Goals as goal

pub accepts-requires : goal.accepts-requires
accepts-requires c =
    let trie : c.store.result.now ≡ c.args.lexicon.now.tries.trie = c.store.ensures ∙ ap (λ (t : AnnotatedTrie). t.trie) c.tries.ensures.value in
    let there = reached_there c.args.lexicon.now c.requires.searched c.args.key.phase c.args.node _ c.requires.phase c.requires.node in
    let rows = ap (λ (t : Trie). length t.rows) trie in
    omega (arith, there, rows)

pub returns-then-key-eq0-clause-possible : goal.returns-then-key-eq0-clause-possible
returns-then-key-eq0-clause-possible c there =
    let searched = c.args.lexicon.now in
    let trie : c.store.result.now ≡ searched.tries.trie = c.store.ensures ∙ ap (λ (t : AnnotatedTrie). t.trie) c.tries.ensures.value in
    let told = subst (λ (t : Trie). IsTrue c.accepts.result ↔ ((row_of t.rows c.args.node).deltas ≢ [])) trie c.accepts.ensures in
    unchanged_there searched c.requires.searched c.args.line.now (numbered_of searched c.args.place.now) (key_meant c.args.key) c.args.node c.requires.node
    c.requires.phase c.requires.letters (omega (arith, c.if-key-eq0.true)) (told.0 there)

pub returns-then-key-eq0-clause-refused : goal.returns-then-key-eq0-clause-refused
returns-then-key-eq0-clause-refused c not_there =
    let searched = c.args.lexicon.now in
    let trie : c.store.result.now ≡ searched.tries.trie = c.store.ensures ∙ ap (λ (t : AnnotatedTrie). t.trie) c.tries.ensures.value in
    let told = subst (λ (t : Trie). IsTrue c.accepts.result ↔ ((row_of t.rows c.args.node).deltas ≢ [])) trie c.accepts.ensures in
    refused_unchanged searched c.requires.searched c.args.line.now (numbered_of searched c.args.place.now) (key_meant c.args.key) c.args.node c.requires.node
    (omega (arith, c.if-key-eq0.true)) c.accepts.result told not_there

pub has_choice-requires-clause-node : goal.has_choice-requires-clause-node
has_choice-requires-clause-node c = reached_there c.args.lexicon.now c.requires.searched c.args.key.phase c.args.node _ c.requires.phase c.requires.node

pub returns-in-Some-clause-possible : goal.returns-in-Some-clause-possible
returns-in-Some-clause-possible c there =
    let searched = c.args.lexicon.now in
    choice_there searched c.requires.searched c.args.line.now (numbered_of searched c.args.place.now) (key_meant c.args.key) c.args.node c.requires.node
    c.requires.phase c.requires.letters _ (c.has_choice.ensures.0 there)

pub returns-in-Some-clause-refused : goal.returns-in-Some-clause-refused
returns-in-Some-clause-refused c not_there =
    let searched = c.args.lexicon.now in
    let whole : c.as_slice.result.now ≡ c.args.line.now.letters = c.as_slice.ensures.value ∙ ap (λ (line : Line). line.letters) c.line.view_is in
    let at = c.args.place.now.at + c.args.key.taken in
    let inside = c.in-Some.ensures.lookup.3.0 in
    refused_choice searched c.requires.searched c.args.line.now (numbered_of searched c.args.place.now) (key_meant c.args.key) c.args.node c.requires.node
    (omega (arith, c.if-key-eq0.false)) _
    (c.in-Some.ensures.lookup.1 ∙ get_or_default c.as_slice.result.now at _ 0 inside ∙ ap (λ (letters : List ℕ). get_or letters at 0) whole)
    c.has_choice.result c.has_choice.ensures not_there
