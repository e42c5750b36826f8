-- What the memo has is in the table already; what is put there by the rules of the part serves wherever a form ends so (`SpreadMemos`).
use Rattle.std.proofs.Common.{◌≡◌, ℕ, ◌+◌, ◌<◌, refl, inr, Some, List, length, All, ap, sym, subst, ◌∙◌, rules}
use Rattle.std.proofs.lemmas.List.Elements.{All-contains}
use Rattle.list_laws.proofs.Sorted.{All-from_Contains}
use Rattle.annotated_trie.specs.Choices.{AnnotatedTrie, rules_of_part}
use Rattle.search_frames.specs.Configurations.{IsPossible, rules_in}
use Rattle.search_frames.specs.Frames.{numbered_of}
use Rattle.summary_chart.specs.declared.memo.Work.{Work}
use Rattle.summary_chart.specs.declared.state_set.StateSet.{StateSet}
use Rattle.summary_chart.specs.Effects.{AreEffects}
use Rattle.summary_chart.specs.Memos.{HasWorks, IsKnownWith, IsWork}
use Rattle.summary_chart.specs.Onward.{Puts}
use Rattle.summary_chart.specs.Spreading.{IsByRule}
use Rattle.summary_chart.specs.StateSets.{HasState}
use Rattle.summary_chart.specs.Summaries.{key_with}
use Rattle.summary_chart.proofs.FrontKeys.{choice_possible, front_node}
use Rattle.summary_chart.proofs.SpreadMemos.{all_grown, all_with, choice_at_work, newly_spread, nothing_new, rule_at_work}
use Rattle.summary_chart.proofs.spreading.spread_part.Goals as goal

pub known_states-known-requires-clause-work : goal.known_states-known-requires-clause-work
known_states-known-requires-clause-work g c =
    let searched = c.args.onward.here.site.lexicon.now in
    let work : Work = record {
      node = c.args.ruled.front.now.node;
      part = Some c.args.part;
      end = c.args.onward.here.site.place.now.at + c.args.ruled.front.now.taken;
      may_end = c.args.ruled.may_end;
      phase = c.alike_phase.result;
    } in
    let there = front_node searched c.requires.onward.here.site.searched c.args.onward.here.site.line.now (numbered_of searched c.args.onward.here.site.place.now) c.args.ruled.front.now.phase c.args.ruled.front.now.taken work.node c.requires.front in
    subst (λ (t : AnnotatedTrie). IsWork t work) (sym c.tries-tries.ensures.value) (record { node = there; part = c.requires.part })

pub known_states-known-requires-clause-works : goal.known_states-known-requires-clause-works
known_states-known-requires-clause-works g c =
    subst (λ (t : AnnotatedTrie). HasWorks t c.args.memo.now) (sym c.tries-tries.ensures.value) c.requires.memo.works

pub rules_of_part-rules-requires : goal.rules_of_part-rules-requires
rules_of_part-rules-requires g c =
    let searched = c.args.onward.here.site.lexicon.now in
    let there = front_node searched c.requires.onward.here.site.searched c.args.onward.here.site.line.now (numbered_of searched c.args.onward.here.site.place.now) c.args.ruled.front.now.phase c.args.ruled.front.now.taken c.args.ruled.front.now.node c.requires.front in
    subst (λ (t : AnnotatedTrie). c.args.part < length t.part_rules) (sym c.tries-tries.ensures.value)
    (All-contains (λ (part : ℕ). part < length searched.tries.part_rules) _ c.args.part (c.requires.onward.here.site.searched.tries.parts c.args.ruled.front.now.node there).there c.requires.part)

pub spread_effects-requires-clause-rules : goal.spread_effects-requires-clause-rules
spread_effects-requires-clause-rules g c =
    let searched = c.args.onward.here.site.lexicon.now in
    let work : Work = record {
      node = c.args.ruled.front.now.node;
      part = Some c.args.part;
      end = c.args.onward.here.site.place.now.at + c.args.ruled.front.now.taken;
      may_end = c.args.ruled.may_end;
      phase = c.alike_phase.result;
    } in
    let there = front_node searched c.requires.onward.here.site.searched c.args.onward.here.site.line.now (numbered_of searched c.args.onward.here.site.place.now) c.args.ruled.front.now.phase c.args.ruled.front.now.taken work.node c.requires.front in
    let rules : c.rules_of_part-rules.result.now ≡ rules_of_part searched.tries c.args.part =
    c.rules_of_part-rules.ensures.value ∙ ap (λ (t : AnnotatedTrie). rules_of_part t c.args.part) c.tries-tries.ensures.value in
    subst (All (λ (rule : ℕ). 0 < rule)) (sym rules)
    (All-from_Contains (λ (rule : ℕ). 0 < rule) (rules_of_part searched.tries c.args.part)
    (λ rule among. (rule_at_work searched work rule c.requires.onward.here.site.searched (record { node = there; part = c.requires.part }) among).0))

pub spread_effects-requires-clause-possible : goal.spread_effects-requires-clause-possible
spread_effects-requires-clause-possible g c =
    let searched = c.args.onward.here.site.lexicon.now in
    let line = c.args.onward.here.site.line.now in
    let here = numbered_of searched c.args.onward.here.site.place.now in
    let is = c.requires.onward.here.site.searched in
    let work : Work = record {
      node = c.args.ruled.front.now.node;
      part = Some c.args.part;
      end = c.args.onward.here.site.place.now.at + c.args.ruled.front.now.taken;
      may_end = c.args.ruled.may_end;
      phase = c.alike_phase.result;
    } in
    let there = front_node searched is line here c.args.ruled.front.now.phase c.args.ruled.front.now.taken work.node c.requires.front in
    let rules : c.rules_of_part-rules.result.now ≡ rules_of_part searched.tries c.args.part =
    c.rules_of_part-rules.ensures.value ∙ ap (λ (t : AnnotatedTrie). rules_of_part t c.args.part) c.tries-tries.ensures.value in
    let Possible : ℕ → Type 0 = λ rule. IsPossible searched line here (key_with c.args.ruled.front.now.phase c.args.ruled.front.now.taken rule) in
    subst (All Possible) (sym rules)
    (All-from_Contains Possible (rules_of_part searched.tries c.args.part)
    (λ rule among. choice_possible searched is line here c.args.ruled.front.now.phase c.args.ruled.front.now.taken work.node c.requires.front rule
    (choice_at_work searched work rule is (record { node = there; part = c.requires.part }) among)))

pub keep-requires : goal.keep-requires
keep-requires g c =
    let searched = c.args.onward.here.site.lexicon.now in
    let work : Work = record {
      node = c.args.ruled.front.now.node;
      part = Some c.args.part;
      end = c.args.onward.here.site.place.now.at + c.args.ruled.front.now.taken;
      may_end = c.args.ruled.may_end;
      phase = c.alike_phase.result;
    } in
    let there = front_node searched c.requires.onward.here.site.searched c.args.onward.here.site.line.now (numbered_of searched c.args.onward.here.site.place.now) c.args.ruled.front.now.phase c.args.ruled.front.now.taken work.node c.requires.front in
    subst (λ (t : AnnotatedTrie). IsWork t work) (sym c.tries-tries.ensures.value) (record { node = there; part = c.requires.part })

pub returns-then-eq-clause-spreads : goal.returns-then-eq-clause-spreads
returns-then-eq-clause-spreads g c =
    let searched = c.args.onward.here.site.lexicon.now in
    let line = c.args.onward.here.site.line.now in
    let place = c.args.onward.here.site.place.now in
    let is = c.requires.onward.here.site.searched in
    let memo = c.args.memo.now in
    let work : Work = record {
      node = c.args.ruled.front.now.node;
      part = Some c.args.part;
      end = c.args.onward.here.site.place.now.at + c.args.ruled.front.now.taken;
      may_end = c.args.ruled.may_end;
      phase = c.alike_phase.result;
    } in
    let there = front_node searched is line (numbered_of searched place) c.args.ruled.front.now.phase c.args.ruled.front.now.taken work.node c.requires.front in
    let has : (number : ℕ) → HasState c.known_states-known.result number → IsKnownWith searched.tries memo work number =
    λ number in_known. subst (λ (t : AnnotatedTrie). IsKnownWith t memo work number) c.tries-tries.ensures.value (c.known_states-known.ensures number in_known) in
    let same : c.union-all.result ≡ c.known_states-known.result = search rules in
    nothing_new searched line c.args.onward.here.site.choices.now place is work c.args.ruled.front.now.taken refl (record { node = there; part = c.requires.part })
    c.args.ruled.front.now.phase c.alike_phase.ensures.alike c.args.onward.after (rules_of_part searched.tries c.args.part) c.args.table.now memo c.requires.memo
    (λ number in_after. has number (subst (λ (set : StateSet). HasState set number) same ((c.union-all.ensures number).1 (inr in_after))))
    (λ rule among. among)

pub returns-clause-memo : goal.returns-clause-memo
returns-clause-memo g c =
    let searched = c.args.onward.here.site.lexicon.now in
    let line = c.args.onward.here.site.line.now in
    let place = c.args.onward.here.site.place.now in
    let choices = c.args.onward.here.site.choices.now in
    let is = c.requires.onward.here.site.searched in
    let memo = c.args.memo.now in
    let work : Work = record {
      node = c.args.ruled.front.now.node;
      part = Some c.args.part;
      end = c.args.onward.here.site.place.now.at + c.args.ruled.front.now.taken;
      may_end = c.args.ruled.may_end;
      phase = c.alike_phase.result;
    } in
    let there = front_node searched is line (numbered_of searched place) c.args.ruled.front.now.phase c.args.ruled.front.now.taken work.node c.requires.front in
    let of_trie : IsWork searched.tries work = record { node = there; part = c.requires.part } in
    let old = c.args.table.now in
    let new = c.spread_effects.new.table in
    let has : (number : ℕ) → HasState c.known_states-known.result number → IsKnownWith searched.tries memo work number =
    λ number in_known. subst (λ (t : AnnotatedTrie). IsKnownWith t memo work number) c.tries-tries.ensures.value (c.known_states-known.ensures number in_known) in
    let rules : c.rules_of_part-rules.result.now ≡ rules_of_part searched.tries c.args.part =
    c.rules_of_part-rules.ensures.value ∙ ap (λ (t : AnnotatedTrie). rules_of_part t c.args.part) c.tries-tries.ensures.value in
    let spreads = subst (λ (some : List ℕ). Puts searched line choices (numbered_of searched place) c.args.onward.after (IsByRule c.args.ruled.front.now.phase c.args.ruled.front.now.taken some) old new)
    rules c.in_ok-spread_effects.ensures.spreads in
    all_with searched line new work c.union-all.result memo c.keep.new.self c.in_ok-keep.ensures.keeps of_trie
    (newly_spread searched line choices place is work c.args.ruled.front.now.taken refl of_trie c.args.ruled.front.now.phase c.alike_phase.ensures.alike c.args.onward.after (rules_of_part searched.tries c.args.part) old new memo
    c.known_states-known.result c.union-all.result c.args.ruled.may_end c.requires.front c.requires.onward.begins c.requires.does c.requires.memo has c.union-all.ensures
    (λ rule among some stands. among) spreads)
    (subst (AreEffects (rules_in searched)) (sym c.in_ok-keep.ensures.effects) c.in_ok-spread_effects.ensures.effects)
    (all_grown searched line old new memo spreads.keeps c.requires.memo)

pub returns-clause-spreads : goal.returns-clause-spreads
returns-clause-spreads g c =
    let searched = c.args.onward.here.site.lexicon.now in
    let front = c.args.ruled.front.now in
    let rules : c.rules_of_part-rules.result.now ≡ rules_of_part searched.tries c.args.part =
    c.rules_of_part-rules.ensures.value ∙ ap (λ (t : AnnotatedTrie). rules_of_part t c.args.part) c.tries-tries.ensures.value in
    subst (λ (some : List ℕ). Puts searched c.args.onward.here.site.line.now c.args.onward.here.site.choices.now (numbered_of searched c.args.onward.here.site.place.now) c.args.onward.after
    (IsByRule front.phase front.taken some) c.args.table.now c.spread_effects.new.table) rules c.in_ok-spread_effects.ensures.spreads
