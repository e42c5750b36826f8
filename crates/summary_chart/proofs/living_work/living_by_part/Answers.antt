-- What the memo keeps of work with this part is right of this one; what is not kept is found by the part's rules, and kept (`LivingKeys`).
use Rattle.std.proofs.Common.{◌≡◌, ℕ, ◌<◌, ◌≤◌, ◌↔◌, Some, List, length, All, Contains, sym, ap, subst, ◌∙◌}
use Rattle.std.proofs.lemmas.List.Elements.{All-contains}
use Rattle.list_laws.proofs.Sorted.{All-from_Contains}
use Rattle.annotated_trie.specs.Choices.{AnnotatedTrie, rules_of_part}
use Rattle.search_frames.specs.Configurations.{rules_in}
use Rattle.summary_chart.specs.declared.memo.Work.{Work}
use Rattle.summary_chart.specs.Effects.{AreEffects}
use Rattle.summary_chart.specs.Memos.{HasWorks, IsSameWork, IsWork, LivesBy}
use Rattle.summary_chart.specs.StateSets.{HasState}
use Rattle.summary_chart.proofs.LivingKeys.{ends_kept, living_kept, same_work}
use Rattle.summary_chart.proofs.SpreadMemos.{rule_at_work}
use Rattle.summary_chart.proofs.living_work.living_by_part.Goals as goal

-- the work with the part
abbrev with_part : Work → ℕ → Work
with_part work part = record { node = work.node; part = Some part; end = work.end; may_end = work.may_end; phase = work.phase }

pub get-requires-clause-work : goal.get-requires-clause-work
get-requires-clause-work g c =
    subst (λ (t : AnnotatedTrie). IsWork t (with_part c.args.work.now c.args.part)) (sym c.tries-tries.ensures.value)
    (record { node = c.requires.node; part = c.requires.part })

pub get-requires-clause-works : goal.get-requires-clause-works
get-requires-clause-works g c = subst (λ (t : AnnotatedTrie). HasWorks t c.args.memo.now) (sym c.tries-tries.ensures.value) c.requires.memo.works

pub rules_of_part-rules-requires : goal.rules_of_part-rules-requires
rules_of_part-rules-requires g c =
    let searched = c.args.site.lexicon.now in
    let there = (c.requires.site.searched.tries.parts c.args.work.now.node c.requires.node).there in
    subst (λ (t : AnnotatedTrie). c.args.part < length t.part_rules) (sym c.tries-tries.ensures.value)
    (All-contains (λ (part : ℕ). part < length searched.tries.part_rules) _ c.args.part there c.requires.part)

pub living_by_rules-requires-clause-rules : goal.living_by_rules-requires-clause-rules
living_by_rules-requires-clause-rules g c =
    let searched = c.args.site.lexicon.now in
    let work = with_part c.args.work.now c.args.part in
    let Named = λ (rule : ℕ). (0 < rule) × (rule ≤ length (rules_in searched).rules) in
    let rules : c.rules_of_part-rules.result.now ≡ rules_of_part searched.tries c.args.part =
    c.rules_of_part-rules.ensures.value ∙ ap (λ (t : AnnotatedTrie). rules_of_part t c.args.part) c.tries-tries.ensures.value in
    subst (All Named) (sym rules)
    (All-from_Contains Named (rules_of_part searched.tries c.args.part)
    (λ rule among. rule_at_work searched work rule c.requires.site.searched (record { node = c.requires.node; part = c.requires.part }) among))

pub keep-requires : goal.keep-requires
keep-requires g c =
    subst (λ (t : AnnotatedTrie). IsWork t (with_part c.args.work.now c.args.part)) (sym c.tries-tries.ensures.value)
    (record { node = c.requires.node; part = c.requires.part })

pub returns-in-Some-clause-living : goal.returns-in-Some-clause-living
returns-in-Some-clause-living g c =
    let searched = c.args.site.lexicon.now in
    let work = with_part c.args.work.now c.args.part in
    let (done, known, same, states) = c.in-Some.ensures in
    same_work searched c.args.site.line.now c.args.table.now done work c.in-Some.states
    (subst (λ (t : AnnotatedTrie). IsSameWork t done.work work) c.tries-tries.ensures.value same) states (c.requires.memo.living done known)

pub returns-clause-memo : goal.returns-clause-memo
returns-clause-memo g c =
    let searched = c.args.site.lexicon.now in
    let work = with_part c.args.work.now c.args.part in
    let living = c.in_ok-living.living in
    let rules : c.rules_of_part-rules.result.now ≡ rules_of_part searched.tries c.args.part =
    c.rules_of_part-rules.ensures.value ∙ ap (λ (t : AnnotatedTrie). rules_of_part t c.args.part) c.tries-tries.ensures.value in
    let are = subst (λ (some : List ℕ). (number : ℕ) → HasState living number ↔ LivesBy searched c.args.site.line.now c.args.table.now work (Contains some) number)
    rules c.in_ok-living.ensures.living in
    living_kept searched c.args.site.line.now c.args.table.now work living c.args.memo.now c.keep.new.self c.requires.memo
    (record { node = c.requires.node; part = c.requires.part }) are c.in_ok-keep.ensures.keeps
    (subst (AreEffects (rules_in searched)) (sym c.in_ok-keep.ensures.effects) c.in_ok-living.ensures.effects)

pub returns-clause-ends : goal.returns-clause-ends
returns-clause-ends g c at low ends =
    ends_kept at (with_part c.args.work.now c.args.part) c.in_ok-living.living c.args.memo.now c.keep.new.self low ends c.in_ok-keep.ensures.keeps

pub returns-clause-living : goal.returns-clause-living
returns-clause-living g c =
    let searched = c.args.site.lexicon.now in
    let rules : c.rules_of_part-rules.result.now ≡ rules_of_part searched.tries c.args.part =
    c.rules_of_part-rules.ensures.value ∙ ap (λ (t : AnnotatedTrie). rules_of_part t c.args.part) c.tries-tries.ensures.value in
    subst (λ (some : List ℕ). (number : ℕ) → HasState c.in_ok-living.living number ↔ LivesBy searched c.args.site.line.now c.args.table.now c.args.work.now (Contains some) number)
    rules c.in_ok-living.ensures.living
