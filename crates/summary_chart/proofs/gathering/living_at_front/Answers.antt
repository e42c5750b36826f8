-- What may stand after the front is no change, and the choices that begin with the next letter (`VisitedKeys`); where each key
-- does what its rule does, the line goes on by these just as it does wherever the form begins (`LivingVisits`).
use Rattle.std.proofs.Common.{◌≡◌, ℕ, ◌+◌, ◌<◌, ◌↔◌, None, List, Contains, length, All, get_or, sym, ap, subst, ◌∙◌, arith}
use Rattle.text_definitions.specs.Lines.{Line as LineValue}
use Rattle.segmentation_definitions.specs.Items.{Choice}
use Rattle.segmentation_definitions.specs.Listings.{Key}
use Rattle.phoneme.specs.declared.line.Line.{Line}
use Rattle.annotated_trie.specs.Choices.{AnnotatedTrie, choices_of, choices_with}
use Rattle.annotated_trie.specs.Searched.{SearchedLexicon}
use Rattle.search_frames.specs.declared.configuration.Configuration.{Configuration}
use Rattle.search_frames.specs.Configurations.{IsPossible}
use Rattle.search_frames.specs.Frames.{numbered_of}
use Rattle.summary_chart.specs.declared.memo.Work.{Work}
use Rattle.summary_chart.specs.declared.state_set.StateSet.{StateSet}
use Rattle.summary_chart.specs.declared.table.Table.{Table}
use Rattle.summary_chart.specs.Memos.{LivesBy}
use Rattle.summary_chart.specs.StateSets.{HasState}
use Rattle.summary_chart.specs.Onward.{AreLivingBy, LivesMore}
use Rattle.summary_chart.specs.Spreading.{IsAtFront, IsByRule, OnlyKey}
use Rattle.summary_chart.specs.Summaries.{key_with}
use Rattle.summary_chart.proofs.AlikeWorks.{lives_alike}
use Rattle.summary_chart.proofs.LivingKeys.{choice_number}
use Rattle.summary_chart.proofs.FrontKeys.{front_node, choices_possible, few_written}
use Rattle.summary_chart.proofs.LivingVisits.{lives_again, lives_found, living_by_these, living_by_more, living_shared, living_visit}
use Rattle.summary_chart.proofs.SameKeys.{these_do}
use Rattle.summary_chart.proofs.VisitedKeys.{visit_without_letter, visit_with_letter}
use Rattle.summary_chart.proofs.gathering.living_at_front.Goals as goal

-- where what no change finds is among it, what was found at a front is all of it
at_front : (searched : SearchedLexicon) (line : LineValue) (choices : List Choice) (place : Configuration) (table : Table)
    (phase taken : ℕ) (unchanged living : StateSet)
    → AreLivingBy searched line choices (numbered_of searched place) table (OnlyKey (key_with phase taken 0)) unchanged
    → LivesMore searched line choices (numbered_of searched place) table (IsAtFront phase taken) unchanged living
    → AreLivingBy searched line choices (numbered_of searched place) table (IsAtFront phase taken) living
at_front searched line choices place table phase taken unchanged living are more =
    living_by_more searched line choices place table (OnlyKey (key_with phase taken 0)) (IsAtFront phase taken) unchanged living
    (λ key same. (ap (λ (k : Key). k.phase) same, ap (λ (k : Key). k.taken) same)) are more

pub returns-in_default-clause-living : goal.returns-in_default-clause-living
returns-in_default-clause-living g c =
    let searched = c.args.here.site.lexicon.now in
    let front = c.args.front.now in
    let line = c.args.here.site.line.now in
    let choices = c.args.here.site.choices.now in
    let place = c.args.here.site.place.now in
    let whole : c.as_slice.result.now ≡ line.letters = c.as_slice.ensures.value ∙ ap (λ (l : Line). l.letters) c.line.view_is in
    let past = c.in_default.ensures.lookup.3 in
    let long = ap length whole in
    let unchanged = c.living_unchanged-unchanged.result in
    let are = c.living_unchanged-unchanged.ensures in
    at_front searched line choices place c.args.table.now front.phase front.taken unchanged unchanged are
    (visit_without_letter searched line choices place StateSet (living_visit searched line choices place c.args.table.now)
    c.requires.here.site.searched front.phase front.taken front.node c.requires.front unchanged unchanged
    (omega (arith, past, long)) (lives_again searched line choices place c.args.table.now (OnlyKey (key_with front.phase front.taken 0)) unchanged are))

pub choices_with-rules-requires : goal.choices_with-rules-requires
choices_with-rules-requires g c =
    let searched = c.args.here.site.lexicon.now in
    let front = c.args.front.now in
    subst (λ (t : AnnotatedTrie). front.node < length t.trie.rows) (sym c.tries.ensures.value)
    (front_node searched c.requires.here.site.searched c.args.here.site.line.now (numbered_of searched c.args.here.site.place.now) front.phase front.taken front.node c.requires.front)

pub living_by_all-requires-clause-possible : goal.living_by_all-requires-clause-possible
living_by_all-requires-clause-possible g c =
    let searched = c.args.here.site.lexicon.now in
    let front = c.args.front.now in
    let line = c.args.here.site.line.now in
    let here = numbered_of searched c.args.here.site.place.now in
    let letter = c.in-Some.letter.now in
    let rules : c.choices_with-rules.result.now ≡ choices_with searched.tries front.node letter =
    c.choices_with-rules.ensures.value ∙ ap (λ (t : AnnotatedTrie). choices_with t front.node letter) c.tries.ensures.value in
    subst (All (λ (rule : ℕ). IsPossible searched line here (key_with front.phase front.taken rule))) (sym rules)
    (choices_possible searched c.requires.here.site.searched line here front.phase front.taken front.node c.requires.front letter)

pub returns-then-is_free-clause-living : goal.returns-then-is_free-clause-living
returns-then-is_free-clause-living g c =
    let searched = c.args.here.site.lexicon.now in
    let front = c.args.front.now in
    let line = c.args.here.site.line.now in
    let choices = c.args.here.site.choices.now in
    let place = c.args.here.site.place.now in
    let letter = c.in-Some.letter.now in
    let whole : c.as_slice.result.now ≡ line.letters = c.as_slice.ensures.value ∙ ap (λ (l : Line). l.letters) c.line.view_is in
    let next : letter ≡ get_or line.letters (place.at + front.taken) letter =
    c.in-Some.ensures.lookup.1 ∙ ap (λ (letters : List ℕ). get_or letters (place.at + front.taken) letter) whole in
    let unchanged = c.living_unchanged-unchanged.result in
    let are = c.living_unchanged-unchanged.ensures in
    let IsWritten = IsByRule front.phase front.taken (choices_with searched.tries front.node letter) in
    at_front searched line choices place c.args.table.now front.phase front.taken unchanged c.union.result are
    (visit_with_letter searched line choices place StateSet (living_visit searched line choices place c.args.table.now)
    c.requires.here.site.searched front.phase front.taken front.node c.requires.front letter unchanged unchanged c.union.result next
    (lives_again searched line choices place c.args.table.now (OnlyKey (key_with front.phase front.taken 0)) unchanged are)
    (lives_found searched line choices place c.args.table.now IsWritten unchanged c.in_ok-found.found c.union.result c.in_ok-found.ensures.living c.union.ensures))

pub returns-then-is_free-clause-steps : goal.returns-then-is_free-clause-steps
returns-then-is_free-clause-steps g c most few = (let more = c.living_by_entered_rules.ensures.steps most few in omega (arith, c.tick.ensures, more))

pub returns-in_err-found-clause-steps : goal.returns-in_err-found-clause-steps
returns-in_err-found-clause-steps g c most few = (let more = c.living_by_entered_rules.ensures.steps most few in omega (arith, c.tick.ensures, more))

pub returns-in_default-end_by_rules-clause-living : goal.returns-in_default-end_by_rules-clause-living
returns-in_default-end_by_rules-clause-living g c =
    let searched = c.args.here.site.lexicon.now in
    let front = c.args.front.now in
    let line = c.args.here.site.line.now in
    let choices = c.args.here.site.choices.now in
    let place = c.args.here.site.place.now in
    let letter = c.in-Some.letter.now in
    let rules : c.choices_with-rules.result.now ≡ choices_with searched.tries front.node letter =
    c.choices_with-rules.ensures.value ∙ ap (λ (t : AnnotatedTrie). choices_with t front.node letter) c.tries.ensures.value in
    let whole : c.as_slice.result.now ≡ line.letters = c.as_slice.ensures.value ∙ ap (λ (l : Line). l.letters) c.line.view_is in
    let next : letter ≡ get_or line.letters (place.at + front.taken) letter =
    c.in-Some.ensures.lookup.1 ∙ ap (λ (letters : List ℕ). get_or letters (place.at + front.taken) letter) whole in
    let unchanged = c.living_unchanged-unchanged.result in
    let are = c.living_unchanged-unchanged.ensures in
    let IsWritten = IsByRule front.phase front.taken (choices_with searched.tries front.node letter) in
    at_front searched line choices place c.args.table.now front.phase front.taken unchanged c.union-in_default-end_by_rules.result are
    (visit_with_letter searched line choices place StateSet (living_visit searched line choices place c.args.table.now)
    c.requires.here.site.searched front.phase front.taken front.node c.requires.front letter unchanged unchanged c.union-in_default-end_by_rules.result next
    (lives_again searched line choices place c.args.table.now (OnlyKey (key_with front.phase front.taken 0)) unchanged are)
    (lives_found searched line choices place c.args.table.now IsWritten unchanged c.living_by_all.result c.union-in_default-end_by_rules.result
    (subst (λ (some : List ℕ). AreLivingBy searched line choices (numbered_of searched place) c.args.table.now (IsByRule front.phase front.taken some) c.living_by_all.result)
    rules c.living_by_all.ensures.living) c.union-in_default-end_by_rules.ensures))

pub returns-in_default-end_by_rules-clause-steps : goal.returns-in_default-end_by_rules-clause-steps
returns-in_default-end_by_rules-clause-steps g c most few =
    let searched = c.args.here.site.lexicon.now in
    let front = c.args.front.now in
    let letter = c.in-Some.letter.now in
    let rules : c.choices_with-rules.result.now ≡ choices_with searched.tries front.node letter =
    c.choices_with-rules.ensures.value ∙ ap (λ (t : AnnotatedTrie). choices_with t front.node letter) c.tries.ensures.value in
    let count = ap length rules in
    let short = few_written searched.tries front.node letter in
    let there = front_node searched c.requires.here.site.searched c.args.here.site.line.now (numbered_of searched c.args.here.site.place.now) front.phase front.taken front.node c.requires.front in
    let all = few front.node there in
    omega (arith, c.tick.ensures, c.choices_with-rules.ensures.steps, c.living_by_all.ensures.steps, count, short, all)

pub living_after-requires-clause-node : goal.living_after-requires-clause-node
living_after-requires-clause-node g c =
    let searched = c.args.here.site.lexicon.now in
    let front = c.args.front.now in
    front_node searched c.requires.here.site.searched c.args.here.site.line.now (numbered_of searched c.args.here.site.place.now) front.phase front.taken front.node c.requires.front

pub returns-clause-ends : goal.returns-clause-ends
returns-clause-ends g c ends = c.in_ok-changed.ensures.ends c.args.here.site.place.now.at (omega arith) ends

pub returns-clause-living : goal.returns-clause-living
returns-clause-living g c =
    let searched = c.args.here.site.lexicon.now in
    let front = c.args.front.now in
    let line = c.args.here.site.line.now in
    let choices = c.args.here.site.choices.now in
    let place = c.args.here.site.place.now in
    let table = c.args.table.now in
    let changed = c.in_ok-changed.changed in
    let is = c.requires.here.site.searched in
    let there = front_node searched is line (numbered_of searched place) front.phase front.taken front.node c.requires.front in
    let choices_are = choice_number searched front.node in
    let alike = lives_alike searched line table front.node (place.at + front.taken) None c.in-Some-end_by_rules.may_end (Contains (choices_of searched.tries front.node))
    (λ rule among. choices_are rule is there among) c.alike_phase.result front.phase c.alike_phase.ensures.alike in
    let own : Work = record { node = front.node; part = None; end = place.at + front.taken; may_end = c.in-Some-end_by_rules.may_end; phase = front.phase } in
    let lives : (number : ℕ) → HasState changed number ↔ LivesBy searched line table own (Contains (choices_of searched.tries front.node)) number = λ number. (
      λ has. (alike number).0 ((c.in_ok-changed.ensures.living number).0 has),
      λ by. (c.in_ok-changed.ensures.living number).1 ((alike number).1 by),
    ) in
    living_shared searched line choices place table is front.phase front.taken front.node c.requires.front
    c.living_unchanged-unchanged.result changed c.union-2.result c.living_unchanged-unchanged.ensures
    (living_by_these searched line choices place table is front.phase front.taken front.node c.requires.front
    c.in-Some-end_by_rules.may_end (choices_of searched.tries front.node) (λ rule among. among)
    (these_do searched line choices place front.taken c.in-Some-end_by_rules.may_end (choices_of searched.tries front.node) c.in-Some-end_by_rules.ensures)
    c.requires.begins changed lives)
    c.union-2.ensures

pub returns-clause-steps : goal.returns-clause-steps
returns-clause-steps g c most few = (let more = c.living_after.ensures.steps most few in omega (arith, c.tick.ensures, more))
