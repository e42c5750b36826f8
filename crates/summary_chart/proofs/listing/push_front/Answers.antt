-- What may stand after the front is no change, where a form ends there, and the choices that begin with the next letter (`OrderedKeys`).
use Rattle.std.proofs.lemmas.Bool.{OnTrue_at}
use Rattle.std.proofs.Common.{◌≡◌, ℕ, ◌+◌, ◌<◌, List, length, All, get_or, sym, ap, subst, ◌∙◌, arith}
use Rattle.std.specs.Ordering.{nat_cmp}
use Rattle.std.specs.List.Sorted.{IsStrictlySortedBy}
use Rattle.list_laws.proofs.Sorted.{All-from_Contains}
use Rattle.phoneme.specs.declared.line.Line.{Line}
use Rattle.annotated_trie.specs.Choices.{AnnotatedTrie, choices_with}
use Rattle.search_frames.specs.Configurations.{IsPossible}
use Rattle.search_frames.specs.Frames.{numbered_of}
use Rattle.search_frames.proofs.GroupedRules.{group_rises}
use Rattle.summary_chart.specs.PlaceWays.{AppendsFalling}
use Rattle.summary_chart.specs.Spreading.{IsByRule}
use Rattle.summary_chart.specs.Summaries.{key_with}
use Rattle.summary_chart.proofs.FrontKeys.{front_node, choices_possible, few_written}
use Rattle.summary_chart.proofs.OrderedKeys.{append_passed_over, append_without_letter, append_with_letter}
use Rattle.summary_chart.proofs.SpreadMemos.{choice_if_written, choice_numbered}
use Rattle.summary_chart.proofs.listing.push_front.Goals as goal

pub returns-in_default-clause-appends : goal.returns-in_default-clause-appends
returns-in_default-clause-appends g c =
    let site = c.args.here.site in
    let searched = site.lexicon.now in
    let line = site.line.now in
    let front = c.args.front.now in
    let whole : c.as_slice.result.now ≡ line.letters = c.as_slice.ensures.value ∙ ap (λ (l : Line). l.letters) c.line.view_is in
    let past = c.in_default.ensures.lookup.3 in
    let long = ap length whole in
    append_without_letter searched line site.choices.now (numbered_of searched site.place.now) (g.S.Sought.sought c.args.sought.now c.args.here.site) c.requires.here.site.searched front.phase front.taken front.node c.requires.front
    c.args.ways.now.items c.push_unchanged.new.ways.items (omega (arith, past, long)) c.in_ok-push_unchanged.ensures.appends

pub returns-then-passes_over-clause-appends : goal.returns-then-passes_over-clause-appends
returns-then-passes_over-clause-appends g c =
    let site = c.args.here.site in
    let searched = site.lexicon.now in
    let front = c.args.front.now in
    append_passed_over searched site.line.now site.choices.now (numbered_of searched site.place.now) (g.S.Sought.sought c.args.sought.now site)
    c.requires.here.site.searched front.phase front.taken front.node c.requires.front c.args.ways.now.items c.push_unchanged-then-passes_over.new.ways.items
    (OnTrue_at c.if-passes_over.true c.passes_over.ensures.none) c.in_ok-push_unchanged-2.ensures.appends

pub choices_with-rules-requires : goal.choices_with-rules-requires
choices_with-rules-requires g c =
    let site = c.args.here.site in
    let searched = site.lexicon.now in
    let front = c.args.front.now in
    subst (λ (t : AnnotatedTrie). front.node < length t.trie.rows) (sym c.tries.ensures.value)
    (front_node searched c.requires.here.site.searched site.line.now (numbered_of searched site.place.now) front.phase front.taken front.node c.requires.front)

pub push_rules-requires-clause-possible : goal.push_rules-requires-clause-possible
push_rules-requires-clause-possible g c =
    let site = c.args.here.site in
    let searched = site.lexicon.now in
    let here = numbered_of searched site.place.now in
    let front = c.args.front.now in
    let letter = c.in-Some.letter.now in
    let rules : c.choices_with-rules.result.now ≡ choices_with searched.tries front.node letter =
    c.choices_with-rules.ensures.value ∙ ap (λ (t : AnnotatedTrie). choices_with t front.node letter) c.tries.ensures.value in
    subst (All (λ (rule : ℕ). IsPossible searched site.line.now here (key_with front.phase front.taken rule))) (sym rules)
    (choices_possible searched c.requires.here.site.searched site.line.now here front.phase front.taken front.node c.requires.front letter)

pub push_rules-requires-clause-rules : goal.push_rules-requires-clause-rules
push_rules-requires-clause-rules g c =
    let site = c.args.here.site in
    let searched = site.lexicon.now in
    let front = c.args.front.now in
    let letter = c.in-Some.letter.now in
    let there = front_node searched c.requires.here.site.searched site.line.now (numbered_of searched site.place.now) front.phase front.taken front.node c.requires.front in
    let rules : c.choices_with-rules.result.now ≡ choices_with searched.tries front.node letter =
    c.choices_with-rules.ensures.value ∙ ap (λ (t : AnnotatedTrie). choices_with t front.node letter) c.tries.ensures.value in
    subst (All (λ (rule : ℕ). 0 < rule)) (sym rules)
    (All-from_Contains (λ (rule : ℕ). 0 < rule) (choices_with searched.tries front.node letter)
    (λ rule among. choice_numbered searched front.node rule c.requires.here.site.searched there (choice_if_written searched.tries front.node letter rule among)))

pub push_rules-requires-clause-rising : goal.push_rules-requires-clause-rising
push_rules-requires-clause-rising g c =
    let site = c.args.here.site in
    let searched = site.lexicon.now in
    let front = c.args.front.now in
    let letter = c.in-Some.letter.now in
    let there = front_node searched c.requires.here.site.searched site.line.now (numbered_of searched site.place.now) front.phase front.taken front.node c.requires.front in
    let rules : c.choices_with-rules.result.now ≡ choices_with searched.tries front.node letter =
    c.choices_with-rules.ensures.value ∙ ap (λ (t : AnnotatedTrie). choices_with t front.node letter) c.tries.ensures.value in
    subst (IsStrictlySortedBy nat_cmp) (sym rules) (group_rises searched c.requires.here.site.searched front.node letter there)

pub returns-clause-appends : goal.returns-clause-appends
returns-clause-appends g c =
    let site = c.args.here.site in
    let searched = site.lexicon.now in
    let line = site.line.now in
    let place = site.place.now in
    let here = numbered_of searched place in
    let front = c.args.front.now in
    let letter = c.in-Some.letter.now in
    let rules : c.choices_with-rules.result.now ≡ choices_with searched.tries front.node letter =
    c.choices_with-rules.ensures.value ∙ ap (λ (t : AnnotatedTrie). choices_with t front.node letter) c.tries.ensures.value in
    let mid = c.push_rules.new.ways.items in
    let whole : c.as_slice.result.now ≡ line.letters = c.as_slice.ensures.value ∙ ap (λ (l : Line). l.letters) c.line.view_is in
    let next : letter ≡ get_or line.letters (place.at + front.taken) letter =
    c.in-Some.ensures.lookup.1 ∙ ap (λ (letters : List ℕ). get_or letters (place.at + front.taken) letter) whole in
    append_with_letter searched line site.choices.now here (g.S.Sought.sought c.args.sought.now c.args.here.site) c.requires.here.site.searched front.phase front.taken front.node c.requires.front letter next
    c.args.ways.now.items mid c.push_unchanged-2.new.ways.items
    (subst (λ (some : List ℕ). AppendsFalling searched line site.choices.now here (g.S.Sought.sought c.args.sought.now c.args.here.site) (IsByRule front.phase front.taken some) c.args.ways.now.items mid) rules
    c.in_ok-push_rules.ensures.appends)
    c.in_ok-push_unchanged-3.ensures.appends

pub returns-clause-steps : goal.returns-clause-steps
returns-clause-steps g c most few =
    let site = c.args.here.site in
    let searched = site.lexicon.now in
    let front = c.args.front.now in
    let letter = c.in-Some.letter.now in
    let rules : c.choices_with-rules.result.now ≡ choices_with searched.tries front.node letter =
    c.choices_with-rules.ensures.value ∙ ap (λ (t : AnnotatedTrie). choices_with t front.node letter) c.tries.ensures.value in
    let count = ap length rules in
    let short = few_written searched.tries front.node letter in
    let all = few front.node (front_node searched c.requires.here.site.searched site.line.now (numbered_of searched site.place.now) front.phase front.taken front.node c.requires.front) in
    omega (arith, c.tick.ensures, c.passes_over.ensures.steps, c.push_unchanged-2.ensures.steps, c.choices_with-rules.ensures.steps, c.push_rules.ensures.steps, count, short, all)

pub returns-in_err-push_rules-clause-steps : goal.returns-in_err-push_rules-clause-steps
returns-in_err-push_rules-clause-steps g c most few =
    let site = c.args.here.site in
    let searched = site.lexicon.now in
    let front = c.args.front.now in
    let letter = c.in-Some.letter.now in
    let rules : c.choices_with-rules.result.now ≡ choices_with searched.tries front.node letter =
    c.choices_with-rules.ensures.value ∙ ap (λ (t : AnnotatedTrie). choices_with t front.node letter) c.tries.ensures.value in
    let count = ap length rules in
    let short = few_written searched.tries front.node letter in
    let all = few front.node (front_node searched c.requires.here.site.searched site.line.now (numbered_of searched site.place.now) front.phase front.taken front.node c.requires.front) in
    omega (arith, c.tick.ensures, c.passes_over.ensures.steps, c.choices_with-rules.ensures.steps, c.push_rules.ensures.steps, count, short, all)

pub returns-in_err-push_unchanged-3-clause-steps : goal.returns-in_err-push_unchanged-3-clause-steps
returns-in_err-push_unchanged-3-clause-steps g c most few =
    let site = c.args.here.site in
    let searched = site.lexicon.now in
    let front = c.args.front.now in
    let letter = c.in-Some.letter.now in
    let rules : c.choices_with-rules.result.now ≡ choices_with searched.tries front.node letter =
    c.choices_with-rules.ensures.value ∙ ap (λ (t : AnnotatedTrie). choices_with t front.node letter) c.tries.ensures.value in
    let count = ap length rules in
    let short = few_written searched.tries front.node letter in
    let all = few front.node (front_node searched c.requires.here.site.searched site.line.now (numbered_of searched site.place.now) front.phase front.taken front.node c.requires.front) in
    omega (arith, c.tick.ensures, c.passes_over.ensures.steps, c.push_unchanged-2.ensures.steps, c.choices_with-rules.ensures.steps, c.push_rules.ensures.steps, count, short, all)
