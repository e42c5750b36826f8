-- No change is possible where a form ends at the node, and only there.
use Rattle.std.proofs.Common.{◌≡◌, ◌≢◌, ◌<◌, [], length, sym, ap, subst, ◌∙◌}
use Rattle.lexicon_definitions.specs.Tries.{Trie, row_of}
use Rattle.annotated_trie.specs.Choices.{AnnotatedTrie}
use Rattle.search_frames.specs.Frames.{numbered_of}
use Rattle.summary_chart.specs.declared.table.Table.{Table}
use Rattle.summary_chart.proofs.FrontKeys.{front_node, unchanged_possible}
use Rattle.summary_chart.proofs.VisitedKeys.{visit_not_unchanged}
use Rattle.summary_chart.proofs.PutKeys.{put_visit}
use Rattle.summary_chart.proofs.spreading.spread_unchanged.Goals as goal

pub accepts-requires : goal.accepts-requires
accepts-requires c =
    let searched = c.args.onward.here.site.lexicon.now in
    subst (λ (t : Trie). c.args.front.now.node < length t.rows) (sym (c.store.ensures ∙ ap (λ (t : AnnotatedTrie). t.trie) c.tries.ensures.value))
    (front_node searched c.requires.onward.here.site.searched c.args.onward.here.site.line.now (numbered_of searched c.args.onward.here.site.place.now) c.args.front.now.phase c.args.front.now.taken c.args.front.now.node c.requires.front)

pub spread_key-requires-clause-possible : goal.spread_key-requires-clause-possible
spread_key-requires-clause-possible c =
    let searched = c.args.onward.here.site.lexicon.now in
    let trie : c.store.result.now ≡ searched.tries.trie = c.store.ensures ∙ ap (λ (t : AnnotatedTrie). t.trie) c.tries.ensures.value in
    unchanged_possible searched c.requires.onward.here.site.searched c.args.onward.here.site.line.now (numbered_of searched c.args.onward.here.site.place.now) c.args.front.now.phase c.args.front.now.taken c.args.front.now.node c.requires.front
    (subst (λ (t : Trie). (row_of t.rows c.args.front.now.node).deltas ≢ []) trie (c.accepts.ensures.0 c.if-not-accepts.false))

pub returns-then-not-accepts-clause-spreads : goal.returns-then-not-accepts-clause-spreads
returns-then-not-accepts-clause-spreads c =
    let searched = c.args.onward.here.site.lexicon.now in
    let trie : c.store.result.now ≡ searched.tries.trie = c.store.ensures ∙ ap (λ (t : AnnotatedTrie). t.trie) c.tries.ensures.value in
    visit_not_unchanged searched c.args.onward.here.site.line.now c.args.onward.here.site.choices.now c.args.onward.here.site.place.now Table
    (put_visit searched c.args.onward.here.site.line.now c.args.onward.here.site.choices.now c.args.onward.here.site.place.now c.args.onward.after) c.requires.onward.here.site.searched c.args.front.now.phase c.args.front.now.taken c.args.front.now.node
    c.requires.front c.args.table.now
    (λ ends. (let yes = c.accepts.ensures.1 (subst (λ (t : Trie). (row_of t.rows c.args.front.now.node).deltas ≢ []) (sym trie) ends) in let no = c.if-not-accepts.true in cc (yes, no)))
