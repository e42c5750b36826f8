-- What the memo keeps of a work with the same rules is right of this one; what is not kept is found, and kept (`LivingKeys`).
use Rattle.std.proofs.Common.{ℕ, ◌↔◌, List, Contains, sym, subst, arith}
use Rattle.annotated_trie.specs.Choices.{AnnotatedTrie}
use Rattle.search_frames.specs.Configurations.{rules_in}
use Rattle.summary_chart.specs.Effects.{AreEffects}
use Rattle.summary_chart.specs.Memos.{HasWorks, IsSameWork, IsWork, LivesBy}
use Rattle.summary_chart.specs.StateSets.{HasState}
use Rattle.summary_chart.proofs.LivingKeys.{ends_kept, living_kept, same_work}
use Rattle.summary_chart.proofs.SpreadMemos.{whole_rules, whole_work}
use Rattle.summary_chart.proofs.living_work.living_after.Goals as goal

pub get-requires-clause-work : goal.get-requires-clause-work
get-requires-clause-work g c =
    subst (λ (t : AnnotatedTrie). IsWork t c.args.work.now) (sym c.tries-tries.ensures.value)
    (whole_work c.args.site.lexicon.now.tries c.args.work.now c.requires.node c.requires.all)

pub get-requires-clause-works : goal.get-requires-clause-works
get-requires-clause-works g c = subst (λ (t : AnnotatedTrie). HasWorks t c.args.memo.now) (sym c.tries-tries.ensures.value) c.requires.memo.works

pub keep-requires : goal.keep-requires
keep-requires g c =
    subst (λ (t : AnnotatedTrie). IsWork t c.args.work.now) (sym c.tries-tries.ensures.value)
    (whole_work c.args.site.lexicon.now.tries c.args.work.now c.requires.node c.requires.all)

pub returns-in-Some-clause-living : goal.returns-in-Some-clause-living
returns-in-Some-clause-living g c =
    let searched = c.args.site.lexicon.now in
    let work = c.args.work.now in
    let (done, known, same, states) = c.in-Some.ensures in
    subst (λ (rules : List ℕ). (number : ℕ) → HasState c.in-Some.states number ↔ LivesBy searched c.args.site.line.now c.args.table.now work (Contains rules) number)
    (whole_rules searched.tries work c.requires.all)
    (same_work searched c.args.site.line.now c.args.table.now done work c.in-Some.states
    (subst (λ (t : AnnotatedTrie). IsSameWork t done.work work) c.tries-tries.ensures.value same) states (c.requires.memo.living done known))

pub returns-clause-memo : goal.returns-clause-memo
returns-clause-memo g c =
    let searched = c.args.site.lexicon.now in
    let work = c.args.work.now in
    let living = c.in_ok-living.living in
    let memo = c.in_ok-living.ensures.memo in
    let are = subst (λ (rules : List ℕ). (number : ℕ) → HasState living number ↔ LivesBy searched c.args.site.line.now c.args.table.now work (Contains rules) number)
    (sym (whole_rules searched.tries work c.requires.all)) c.in_ok-living.ensures.living in
    living_kept searched c.args.site.line.now c.args.table.now work living c.living_anew.new.memo c.keep.new.self memo
    (whole_work searched.tries work c.requires.node c.requires.all) are c.in_ok-keep.ensures.keeps
    (subst (AreEffects (rules_in searched)) (sym c.in_ok-keep.ensures.effects) memo.effects)

pub returns-clause-ends : goal.returns-clause-ends
returns-clause-ends g c at low ends =
    ends_kept at c.args.work.now c.in_ok-living.living c.living_anew.new.memo c.keep.new.self low (c.in_ok-living.ensures.ends at low ends) c.in_ok-keep.ensures.keeps

pub returns-clause-steps : goal.returns-clause-steps
returns-clause-steps g c most few = (let more = c.living_anew.ensures.steps most few in omega (arith, c.tick.ensures, more))
