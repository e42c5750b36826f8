-- There are as many phases of forms as names, so the phase has a root; what is found from there is what the lemmas say.
use Rattle.std.proofs.Common.{◌∙◌, ap, length, arith}
use Rattle.annotated_trie.specs.Choices.{AnnotatedTrie}
use Rattle.chain_definitions.specs.ChainReadings.{has_form}
use Rattle.joiner.proofs.FormsFound.{not_there, there}
use Rattle.joiner.proofs.forms.has_form.Goals as goal

pub root-requires : goal.root-requires
root-requires c =
    let count = c.requires.searched.lexicon.count in
    let roots = c.requires.searched.forms.count in
    let same = ap length (ap (λ (t : AnnotatedTrie). t.trie.roots) c.tries.ensures.value) in
    let store = ap length (ap (λ t. t.roots) c.store-store.ensures) in
    let low = c.requires.phase in
    omega (arith, count, roots, same, store, low)

pub returns-in-None : goal.returns-in-None
returns-in-None c =
    not_there c.args.lexicon.now c.requires.searched c.store-store.result.now
    (c.store-store.ensures ∙ ap (λ (t : AnnotatedTrie). t.trie) c.tries.ensures.value) c.args.phase c.root.result c.requires.phase c.root.ensures.value
    c.as_slice.result.now c.in-None.ensures.value ∙ ap (has_form c.args.lexicon.now.lexicon c.args.phase) c.as_slice.ensures.value

pub returns-in-Some : goal.returns-in-Some
returns-in-Some c =
    there c.args.lexicon.now c.requires.searched c.store-store.result.now
    (c.store-store.ensures ∙ ap (λ (t : AnnotatedTrie). t.trie) c.tries.ensures.value) c.args.phase c.root.result c.requires.phase c.root.ensures.value
    c.as_slice.result.now c.in-Some.node c.accepts.result c.in-Some.ensures.value c.accepts.ensures
    ∙ ap (has_form c.args.lexicon.now.lexicon c.args.phase) c.as_slice.ensures.value
