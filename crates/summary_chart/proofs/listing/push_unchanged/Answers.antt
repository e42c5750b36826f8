-- No change is possible where a form ends at the node, and only there.
use Rattle.std.proofs.Common.{◌≡◌, ◌≢◌, ◌<◌, [], length, sym, ap, subst, ◌∙◌}
use Rattle.lexicon_definitions.specs.Tries.{Trie, row_of}
use Rattle.annotated_trie.specs.Choices.{AnnotatedTrie}
use Rattle.search_frames.specs.Frames.{numbered_of}
use Rattle.summary_chart.proofs.FrontKeys.{front_node, unchanged_possible}
use Rattle.summary_chart.proofs.OrderedKeys.{append_not_unchanged}
use Rattle.summary_chart.proofs.listing.push_unchanged.Goals as goal

pub accepts-requires : goal.accepts-requires
accepts-requires g c =
    let site = c.args.here.site in
    let searched = site.lexicon.now in
    let front = c.args.front.now in
    subst (λ (t : Trie). front.node < length t.rows) (sym (c.store.ensures ∙ ap (λ (t : AnnotatedTrie). t.trie) c.tries.ensures.value))
    (front_node searched c.requires.here.site.searched site.line.now (numbered_of searched site.place.now) front.phase front.taken front.node c.requires.front)

pub push_key-requires-clause-possible : goal.push_key-requires-clause-possible
push_key-requires-clause-possible g c =
    let site = c.args.here.site in
    let searched = site.lexicon.now in
    let front = c.args.front.now in
    let trie : c.store.result.now ≡ searched.tries.trie = c.store.ensures ∙ ap (λ (t : AnnotatedTrie). t.trie) c.tries.ensures.value in
    unchanged_possible searched c.requires.here.site.searched site.line.now (numbered_of searched site.place.now) front.phase front.taken front.node c.requires.front
    (subst (λ (t : Trie). (row_of t.rows front.node).deltas ≢ []) trie (c.accepts.ensures.0 c.if-not-accepts.false))

pub returns-then-not-accepts-clause-appends : goal.returns-then-not-accepts-clause-appends
returns-then-not-accepts-clause-appends g c =
    let site = c.args.here.site in
    let searched = site.lexicon.now in
    let front = c.args.front.now in
    let trie : c.store.result.now ≡ searched.tries.trie = c.store.ensures ∙ ap (λ (t : AnnotatedTrie). t.trie) c.tries.ensures.value in
    append_not_unchanged searched site.line.now site.choices.now (numbered_of searched site.place.now) (g.S.Sought.sought c.args.sought.now c.args.here.site) c.requires.here.site.searched front.phase front.taken front.node
    c.requires.front c.args.ways.now.items
    (λ ends. (let yes = c.accepts.ensures.1 (subst (λ (t : Trie). (row_of t.rows front.node).deltas ≢ []) (sym trie) ends) in let no = c.if-not-accepts.true in cc (yes, no)))
