-- What may stand after the front is no change, where a form ends there, and the choices that begin with the next letter (`FrontKeys`).
use Rattle.std.proofs.Common.{◌≡◌, ℕ, ◌+◌, ◌<◌, List, length, All, get_or, sym, ap, subst, ◌∙◌, arith}
use Rattle.std.proofs.lemmas.Result.{on_ok_weaker}
use Rattle.phoneme.specs.declared.line.Line.{Line}
use Rattle.annotated_trie.specs.Choices.{AnnotatedTrie, choices_with}
use Rattle.search_frames.specs.Configurations.{IsPossible}
use Rattle.search_frames.specs.Frames.{numbered_of}
use Rattle.summary_chart.specs.Summaries.{AddsItems, IsItemByRule, key_with}
use Rattle.summary_chart.proofs.FrontKeys.{front_node, choices_possible, few_written}
use Rattle.summary_chart.proofs.CollectedItems.{front_without_letter, front_with_letter}
use Rattle.summary_chart.proofs.collecting.collect_front.Goals as goal

pub returns-in_default-clause-adds : goal.returns-in_default-clause-adds
returns-in_default-clause-adds g c =
    let site = c.args.here.site in
    let line = site.line.now in
    let front = c.args.front.now in
    let whole : c.as_slice.result.now ≡ line.letters = c.as_slice.ensures.value ∙ ap (λ (l : Line). l.letters) c.line.view_is in
    let past = c.in_default.ensures.lookup.3 in
    let long = ap length whole in
    front_without_letter site.lexicon.now c.requires.here.site.searched line site.choices.now c.args.standing.table.now site.place.now c.args.standing.states
    front.phase front.taken front.node c.requires.front c.args.collected.now.items.items c.collect_unchanged.new.collected.items.items
    (omega (arith, past, long)) c.in_ok-collect_unchanged.ensures.adds

pub choices_with-rules-requires : goal.choices_with-rules-requires
choices_with-rules-requires g c =
    let site = c.args.here.site in
    let searched = site.lexicon.now in
    let front = c.args.front.now in
    subst (λ (t : AnnotatedTrie). front.node < length t.trie.rows) (sym c.tries.ensures.value)
    (front_node searched c.requires.here.site.searched site.line.now (numbered_of searched site.place.now) front.phase front.taken front.node c.requires.front)

pub collect_rules-requires-clause-possible : goal.collect_rules-requires-clause-possible
collect_rules-requires-clause-possible g c =
    let site = c.args.here.site in
    let searched = site.lexicon.now in
    let here = numbered_of searched site.place.now in
    let front = c.args.front.now in
    let letter = c.in-Some.letter.now in
    let rules : c.choices_with-rules.result.now ≡ choices_with searched.tries front.node letter =
    c.choices_with-rules.ensures.value ∙ ap (λ (t : AnnotatedTrie). choices_with t front.node letter) c.tries.ensures.value in
    subst (All (λ (rule : ℕ). IsPossible searched site.line.now here (key_with front.phase front.taken rule))) (sym rules)
    (choices_possible searched c.requires.here.site.searched site.line.now here front.phase front.taken front.node c.requires.front letter)

pub returns-clause-adds : goal.returns-clause-adds
returns-clause-adds g c =
    let site = c.args.here.site in
    let searched = site.lexicon.now in
    let line = site.line.now in
    let choices = site.choices.now in
    let place = site.place.now in
    let table = c.args.standing.table.now in
    let states = c.args.standing.states in
    let front = c.args.front.now in
    let letter = c.in-Some.letter.now in
    let rules : c.choices_with-rules.result.now ≡ choices_with searched.tries front.node letter =
    c.choices_with-rules.ensures.value ∙ ap (λ (t : AnnotatedTrie). choices_with t front.node letter) c.tries.ensures.value in
    let mid = c.collect_unchanged.new.collected.items.items in
    let whole : c.as_slice.result.now ≡ line.letters = c.as_slice.ensures.value ∙ ap (λ (l : Line). l.letters) c.line.view_is in
    let next : letter ≡ get_or line.letters (place.at + front.taken) letter =
    c.in-Some.ensures.lookup.1 ∙ ap (λ (letters : List ℕ). get_or letters (place.at + front.taken) letter) whole in
    on_ok_weaker c.collect_rules.result
    (λ changed. front_with_letter searched c.requires.here.site.searched line choices table place states front.phase front.taken front.node c.requires.front letter
    c.args.collected.now.items.items mid c.collect_rules.new.collected.items.items next c.in_ok-collect_unchanged.ensures.adds
    (subst (λ (some : List ℕ). AddsItems (IsItemByRule searched line choices table place.at place.entrance states front.phase front.taken some) mid c.collect_rules.new.collected.items.items)
    rules changed))
    c.collect_rules.ensures.adds

pub returns-clause-steps : goal.returns-clause-steps
returns-clause-steps g c most few =
    let site = c.args.here.site in
    let searched = site.lexicon.now in
    let front = c.args.front.now in
    let letter = c.in-Some.letter.now in
    let rules : c.choices_with-rules.result.now ≡ choices_with searched.tries front.node letter =
    c.choices_with-rules.ensures.value ∙ ap (λ (t : AnnotatedTrie). choices_with t front.node letter) c.tries.ensures.value in
    let count = ap length rules in
    let short = few_written searched.tries front.node letter in
    let all = few front.node (front_node searched c.requires.here.site.searched site.line.now (numbered_of searched site.place.now) front.phase front.taken front.node c.requires.front) in
    omega (arith, c.tick.ensures, c.collect_unchanged.ensures.steps, c.choices_with-rules.ensures.steps, c.collect_rules.ensures.steps, count, short, all)
