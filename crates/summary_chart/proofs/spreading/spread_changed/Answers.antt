-- What the memo has is in the table already; what is put there serves wherever a form ends so, if every key does what its rule does
-- (`SpreadMemos`).
use Rattle.std.proofs.Common.{◌≡◌, ℕ, ◌+◌, ◌<◌, refl, inr, None, List, length, All, ap, sym, subst, ◌∙◌, arith, rules}
use Rattle.annotated_trie.specs.Choices.{AnnotatedTrie, choices_of, choices_with}
use Rattle.search_frames.specs.Configurations.{IsPossible, rules_in}
use Rattle.search_frames.specs.Frames.{numbered_of}
use Rattle.summary_chart.specs.declared.memo.Work.{Work}
use Rattle.summary_chart.specs.declared.state_set.StateSet.{StateSet}
use Rattle.summary_chart.specs.Effects.{AreEffects}
use Rattle.summary_chart.specs.Memos.{HasWorks, IsKnownWith, IsWork}
use Rattle.summary_chart.specs.Onward.{Puts}
use Rattle.summary_chart.specs.Spreading.{IsByRule}
use Rattle.summary_chart.specs.StateSets.{HasState}
use Rattle.summary_chart.specs.Summaries.{key_with}
use Rattle.summary_chart.proofs.FrontKeys.{among_written, choice_possible, front_node, choices_possible, few_written}
use Rattle.summary_chart.proofs.SameKeys.{these_do}
use Rattle.summary_chart.proofs.SpreadMemos.{all_grown, all_with, choice_if_written, nothing_new, newly_spread}
use Rattle.summary_chart.proofs.spreading.spread_changed.Goals as goal

pub known_states-known-requires-clause-work : goal.known_states-known-requires-clause-work
known_states-known-requires-clause-work g c =
    let searched = c.args.onward.here.site.lexicon.now in
    let work : Work = record {
      node = c.args.front.now.node;
      part = None;
      end = c.args.onward.here.site.place.now.at + c.args.front.now.taken;
      may_end = c.in-Some.may_end;
      phase = c.alike_phase.result;
    } in
    let there = front_node searched c.requires.onward.here.site.searched c.args.onward.here.site.line.now (numbered_of searched c.args.onward.here.site.place.now) c.args.front.now.phase c.args.front.now.taken c.args.front.now.node c.requires.front in
    subst (λ (t : AnnotatedTrie). IsWork t work) (sym c.tries-tries.ensures.value) (record { node = there; part = tt })

pub known_states-known-requires-clause-works : goal.known_states-known-requires-clause-works
known_states-known-requires-clause-works g c =
    subst (λ (t : AnnotatedTrie). HasWorks t c.args.memo.now) (sym c.tries-tries.ensures.value) c.requires.memo.works

pub choices_with-rules-requires : goal.choices_with-rules-requires
choices_with-rules-requires g c =
    let searched = c.args.onward.here.site.lexicon.now in
    subst (λ (t : AnnotatedTrie). c.args.front.now.node < length t.trie.rows) (sym c.tries-tries.ensures.value)
    (front_node searched c.requires.onward.here.site.searched c.args.onward.here.site.line.now (numbered_of searched c.args.onward.here.site.place.now) c.args.front.now.phase c.args.front.now.taken c.args.front.now.node c.requires.front)

pub spread_rules-requires-clause-possible : goal.spread_rules-requires-clause-possible
spread_rules-requires-clause-possible g c =
    let searched = c.args.onward.here.site.lexicon.now in
    let line = c.args.onward.here.site.line.now in
    let here = numbered_of searched c.args.onward.here.site.place.now in
    let rules : c.choices_with-rules.result.now ≡ choices_with searched.tries c.args.front.now.node c.args.letter =
    c.choices_with-rules.ensures.value ∙ ap (λ (t : AnnotatedTrie). choices_with t c.args.front.now.node c.args.letter) c.tries-tries.ensures.value in
    subst (All (λ (rule : ℕ). IsPossible searched line here (key_with c.args.front.now.phase c.args.front.now.taken rule))) (sym rules)
    (choices_possible searched c.requires.onward.here.site.searched line here c.args.front.now.phase c.args.front.now.taken c.args.front.now.node c.requires.front c.args.letter)

pub keep-requires : goal.keep-requires
keep-requires g c =
    let searched = c.args.onward.here.site.lexicon.now in
    let work : Work = record {
      node = c.args.front.now.node;
      part = None;
      end = c.args.onward.here.site.place.now.at + c.args.front.now.taken;
      may_end = c.in-Some.may_end;
      phase = c.alike_phase.result;
    } in
    let there = front_node searched c.requires.onward.here.site.searched c.args.onward.here.site.line.now (numbered_of searched c.args.onward.here.site.place.now) c.args.front.now.phase c.args.front.now.taken c.args.front.now.node c.requires.front in
    subst (λ (t : AnnotatedTrie). IsWork t work) (sym c.tries-tries.ensures.value) (record { node = there; part = tt })

pub returns-then-eq-clause-spreads : goal.returns-then-eq-clause-spreads
returns-then-eq-clause-spreads g c =
    let searched = c.args.onward.here.site.lexicon.now in
    let memo = c.args.memo.now in
    let work : Work = record {
      node = c.args.front.now.node;
      part = None;
      end = c.args.onward.here.site.place.now.at + c.args.front.now.taken;
      may_end = c.in-Some.may_end;
      phase = c.alike_phase.result;
    } in
    let there = front_node searched c.requires.onward.here.site.searched c.args.onward.here.site.line.now (numbered_of searched c.args.onward.here.site.place.now) c.args.front.now.phase c.args.front.now.taken c.args.front.now.node c.requires.front in
    let has : (number : ℕ) → HasState c.known_states-known.result number → IsKnownWith searched.tries memo work number =
    λ number in_known. subst (λ (t : AnnotatedTrie). IsKnownWith t memo work number) c.tries-tries.ensures.value (c.known_states-known.ensures number in_known) in
    let same : c.union-all.result ≡ c.known_states-known.result = search rules in
    nothing_new searched c.args.onward.here.site.line.now c.args.onward.here.site.choices.now c.args.onward.here.site.place.now c.requires.onward.here.site.searched work c.args.front.now.taken refl
    (record { node = there; part = tt }) c.args.front.now.phase c.alike_phase.ensures.alike c.args.onward.after (choices_with searched.tries work.node c.args.letter) c.args.table.now memo c.requires.memo
    (λ number in_after. has number (subst (λ (set : StateSet). HasState set number) same ((c.union-all.ensures number).1 (inr in_after))))
    (λ rule among. choice_if_written searched.tries work.node c.args.letter rule among)

pub returns-in_default-clause-memo : goal.returns-in_default-clause-memo
returns-in_default-clause-memo g c =
    all_grown c.args.onward.here.site.lexicon.now c.args.onward.here.site.line.now c.args.table.now c.spread_rules.new.table c.args.memo.now c.spread_rules.ensures.spreads.keeps c.requires.memo

pub returns-clause-memo : goal.returns-clause-memo
returns-clause-memo g c =
    let searched = c.args.onward.here.site.lexicon.now in
    let line = c.args.onward.here.site.line.now in
    let place = c.args.onward.here.site.place.now in
    let choices = c.args.onward.here.site.choices.now in
    let is = c.requires.onward.here.site.searched in
    let here = numbered_of searched place in
    let memo = c.args.memo.now in
    let later = c.spread_anew-2.new.memo in
    let now = c.in_ok-spread_anew.ensures.memo in
    let work : Work = record {
      node = c.args.front.now.node;
      part = None;
      end = c.args.onward.here.site.place.now.at + c.args.front.now.taken;
      may_end = c.in-Some.may_end;
      phase = c.alike_phase.result;
    } in
    let there = front_node searched c.requires.onward.here.site.searched c.args.onward.here.site.line.now (numbered_of searched c.args.onward.here.site.place.now) c.args.front.now.phase c.args.front.now.taken c.args.front.now.node c.requires.front in
    let of_trie : IsWork searched.tries work = record { node = there; part = tt } in
    let old = c.args.table.now in
    let new = c.spread_anew-2.new.table in
    let has : (number : ℕ) → HasState c.known_states-known.result number → IsKnownWith searched.tries memo work number =
    λ number in_known. subst (λ (t : AnnotatedTrie). IsKnownWith t memo work number) c.tries-tries.ensures.value (c.known_states-known.ensures number in_known) in
    all_with searched line new work c.union-all.result later c.keep.new.self c.in_ok-keep.ensures.keeps of_trie
    (newly_spread searched line choices place is work c.args.front.now.taken refl of_trie c.args.front.now.phase c.alike_phase.ensures.alike c.args.onward.after (choices_with searched.tries work.node c.args.letter) old new memo
    c.known_states-known.result c.union-all.result c.in-Some.may_end c.requires.front c.requires.onward.begins
    (these_do searched line choices place c.args.front.now.taken c.in-Some.may_end (choices_of searched.tries work.node) c.in-Some.ensures) c.requires.memo has c.union-all.ensures
    (λ rule among some stands. among_written searched is line here c.args.front.now.phase c.args.front.now.taken work.node c.requires.front choices rule some stands c.args.letter c.requires.letter
    (choice_possible searched is line here c.args.front.now.phase c.args.front.now.taken work.node c.requires.front rule among))
    c.in_ok-spread_anew.ensures.spreads)
    (subst (AreEffects (rules_in searched)) (sym c.in_ok-keep.ensures.effects) now.effects)
    now

pub returns-in_default-clause-spreads : goal.returns-in_default-clause-spreads
returns-in_default-clause-spreads g c =
    let searched = c.args.onward.here.site.lexicon.now in
    let place = c.args.onward.here.site.place.now in
    let front = c.args.front.now in
    let rules : c.choices_with-rules.result.now ≡ choices_with searched.tries front.node c.args.letter =
    c.choices_with-rules.ensures.value ∙ ap (λ (t : AnnotatedTrie). choices_with t front.node c.args.letter) c.tries-tries.ensures.value in
    subst (λ (some : List ℕ). Puts searched c.args.onward.here.site.line.now c.args.onward.here.site.choices.now (numbered_of searched place) c.args.onward.after (IsByRule front.phase front.taken some)
    c.args.table.now c.spread_rules.new.table) rules c.spread_rules.ensures.spreads

pub returns-in_default-clause-steps : goal.returns-in_default-clause-steps
returns-in_default-clause-steps g c most few =
    let searched = c.args.onward.here.site.lexicon.now in
    let rules : c.choices_with-rules.result.now ≡ choices_with searched.tries c.args.front.now.node c.args.letter =
    c.choices_with-rules.ensures.value ∙ ap (λ (t : AnnotatedTrie). choices_with t c.args.front.now.node c.args.letter) c.tries-tries.ensures.value in
    let count = ap length rules in
    let short = few_written searched.tries c.args.front.now.node c.args.letter in
    let there = front_node searched c.requires.onward.here.site.searched c.args.onward.here.site.line.now (numbered_of searched c.args.onward.here.site.place.now) c.args.front.now.phase c.args.front.now.taken c.args.front.now.node c.requires.front in
    let all = few c.args.front.now.node there in
    omega (arith, c.tick.ensures, c.choices_with-rules.ensures.steps, c.spread_rules.ensures.steps, count, short, all)

pub returns-in_err-keep-clause-steps : goal.returns-in_err-keep-clause-steps
returns-in_err-keep-clause-steps g c most few = (let more = c.spread_anew-2.ensures.steps most few in omega (arith, c.tick.ensures, more))

pub returns-in_err-spread_anew-clause-steps : goal.returns-in_err-spread_anew-clause-steps
returns-in_err-spread_anew-clause-steps g c most few = (let more = c.spread_anew-2.ensures.steps most few in omega (arith, c.tick.ensures, more))

pub returns-clause-steps : goal.returns-clause-steps
returns-clause-steps g c most few = (let more = c.spread_anew-2.ensures.steps most few in omega (arith, c.tick.ensures, more))
