-- A walk along the lead and then letters of the line is one along the letters from where the lead leads (`Walks`).
use Rattle.std.proofs.Common.{◌≡◌, ℕ, ◌-◌, ◌<◌, List, length, take, drop, IsSome, sym, ap, subst, ◌∙◌, arith}
use Rattle.std.proofs.lemmas.Result.{on_ok_weaker}
use Rattle.phoneme.specs.declared.line.Line.{Line}
use Rattle.lexicon_definitions.specs.Tries.{Trie, walk}
use Rattle.answer_paths.specs.Fronts.{supplied}
use Rattle.annotated_trie.specs.Choices.{AnnotatedTrie}
use Rattle.search_frames.specs.declared.frame.TheConstants.{NODES_OF_FRAME}
use Rattle.search_frames.specs.Frames.{numbered_of}
use Rattle.search_frames.proofs.PossibleKeys.{root_in, short_walks}
use Rattle.search_frames.proofs.WalkLemmas.{short_after}
use Rattle.summary_chart.specs.Fronts.{AreWalkedFrom}
use Rattle.summary_chart.proofs.FrontKeys.{front_node}
use Rattle.summary_chart.proofs.Walks.{first_entered, fronts_from}
use Rattle.summary_chart.proofs.walking.walk_on.Goals as goal

pub walk_letters-requires-clause-there : goal.walk_letters-requires-clause-there
walk_letters-requires-clause-there g c =
    let searched = c.args.site.lexicon.now in
    let first = c.args.first.now in
    let trie : c.store.result.now ≡ searched.tries.trie = c.store.ensures ∙ ap (λ (t : AnnotatedTrie). t.trie) c.tries.ensures.value in
    subst (λ (t : Trie). first.node < length t.rows) (sym trie)
    (front_node searched c.requires.site.searched c.args.site.line.now (numbered_of searched c.args.site.place.now) first.phase 0 first.node c.requires.first)

pub walk_letters-requires-clause-short : goal.walk_letters-requires-clause-short
walk_letters-requires-clause-short g c word walks =
    let searched = c.args.site.lexicon.now in
    let here = numbered_of searched c.args.site.place.now in
    let first = c.args.first.now in
    let trie : c.store.result.now ≡ searched.tries.trie = c.store.ensures ∙ ap (λ (t : AnnotatedTrie). t.trie) c.tries.ensures.value in
    short_after searched.tries.trie.rows (supplied here.entrance) (root_in searched first.phase) first.node NODES_OF_FRAME
    (first_entered searched c.requires.site.searched c.args.site.line.now here first.phase c.args.limit first.node c.requires.first)
    (λ other there. (let few = short_walks searched c.requires.site.searched first.phase other c.requires.first.named there in omega (arith, few)))
    word (subst (λ (t : Trie). IsSome (walk t.rows first.node word)) trie walks)

pub returns-clause-fronts : goal.returns-clause-fronts
returns-clause-fronts g c =
    let searched = c.args.site.lexicon.now in
    let line = c.args.site.line.now in
    let here = numbered_of searched c.args.site.place.now in
    let first = c.args.first.now in
    let nodes = c.walk_letters.new.nodes.items in
    let trie : c.store.result.now ≡ searched.tries.trie = c.store.ensures ∙ ap (λ (t : AnnotatedTrie). t.trie) c.tries.ensures.value in
    let whole : c.as_slice.result.now ≡ line.letters = c.as_slice.ensures.value ∙ ap (λ (l : Line). l.letters) c.line.view_is in
    let letters : take (c.args.limit - here.at) (drop here.at c.as_slice.result.now) ≡ take (c.args.limit - here.at) (drop here.at line.letters) =
    ap (λ (l : List ℕ). take (c.args.limit - here.at) (drop here.at l)) whole in
    on_ok_weaker c.walk_letters.result
    (λ from. fronts_from searched c.requires.site.searched line here first.phase c.args.limit first.node nodes c.requires.first.named c.requires.low c.requires.within
    (first_entered searched c.requires.site.searched line here first.phase c.args.limit first.node c.requires.first)
    (subst (λ (some : List ℕ). AreWalkedFrom searched.tries.trie.rows first.node some nodes) letters
    (subst (λ (t : Trie). AreWalkedFrom t.rows first.node (take (c.args.limit - here.at) (drop here.at c.as_slice.result.now)) nodes) trie from)))
    c.walk_letters.ensures.walked
