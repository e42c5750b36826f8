-- No change is possible where a form ends at the node, and only there.
use Rattle.std.proofs.Common.{◌≡◌, ◌≢◌, ◌<◌, [], length, sym, ap, subst, ◌∙◌}
use Rattle.lexicon_definitions.specs.Tries.{Trie, row_of}
use Rattle.annotated_trie.specs.Choices.{AnnotatedTrie}
use Rattle.search_frames.specs.Frames.{numbered_of}
use Rattle.summary_chart.specs.declared.state_set.StateSet.{StateSet}
use Rattle.summary_chart.specs.Spreading.{OnlyKey}
use Rattle.summary_chart.specs.Summaries.{key_with}
use Rattle.summary_chart.proofs.FrontKeys.{front_node, unchanged_possible}
use Rattle.summary_chart.proofs.LivingVisits.{all_living, living_visit}
use Rattle.summary_chart.proofs.VisitedKeys.{visit_not_unchanged}
use Rattle.summary_chart.proofs.gathering.living_unchanged.Goals as goal

pub accepts-requires : goal.accepts-requires
accepts-requires c =
    let searched = c.args.here.site.lexicon.now in
    let line = c.args.here.site.line.now in
    let place = c.args.here.site.place.now in
    let front = c.args.front.now in
    subst (λ (t : Trie). front.node < length t.rows) (sym (c.store.ensures ∙ ap (λ (t : AnnotatedTrie). t.trie) c.tries.ensures.value))
    (front_node searched c.requires.here.site.searched line (numbered_of searched place) front.phase front.taken front.node c.requires.front)

pub living_by_key-requires-clause-possible : goal.living_by_key-requires-clause-possible
living_by_key-requires-clause-possible c =
    let searched = c.args.here.site.lexicon.now in
    let line = c.args.here.site.line.now in
    let place = c.args.here.site.place.now in
    let front = c.args.front.now in
    let trie : c.store.result.now ≡ searched.tries.trie = c.store.ensures ∙ ap (λ (t : AnnotatedTrie). t.trie) c.tries.ensures.value in
    unchanged_possible searched c.requires.here.site.searched line (numbered_of searched place) front.phase front.taken front.node c.requires.front
    (subst (λ (t : Trie). (row_of t.rows front.node).deltas ≢ []) trie (c.accepts.ensures.0 c.if-not-accepts.false))

pub returns-then-not-accepts : goal.returns-then-not-accepts
returns-then-not-accepts c =
    let searched = c.args.here.site.lexicon.now in
    let line = c.args.here.site.line.now in
    let place = c.args.here.site.place.now in
    let front = c.args.front.now in
    let trie : c.store.result.now ≡ searched.tries.trie = c.store.ensures ∙ ap (λ (t : AnnotatedTrie). t.trie) c.tries.ensures.value in
    all_living searched line c.args.here.site.choices.now place c.args.table.now
    (OnlyKey (key_with front.phase front.taken 0)) c.empty.result c.empty.result c.empty.ensures.none
    (visit_not_unchanged searched line c.args.here.site.choices.now place StateSet
    (living_visit searched line c.args.here.site.choices.now place c.args.table.now) c.requires.here.site.searched front.phase front.taken front.node
    c.requires.front c.empty.result
    (λ ends. (let yes = c.accepts.ensures.1 (subst (λ (t : Trie). (row_of t.rows front.node).deltas ≢ []) (sym trie) ends) in let no = c.if-not-accepts.true in cc (yes, no))))
