-- The rules that begin with the next letter are looked at one by one, or as those of all parts that may be entered (`PartRules`).
use Rattle.std.proofs.Common.{◌≡◌, ℕ, ◌<◌, List, length, All, ap, sym, subst, ◌∙◌, arith}
use Rattle.list_laws.proofs.Sorted.{All-from_Contains}
use Rattle.annotated_trie.specs.Choices.{AnnotatedTrie, choices_with}
use Rattle.search_frames.specs.Configurations.{IsPossible}
use Rattle.search_frames.specs.Frames.{numbered_of}
use Rattle.summary_chart.specs.Onward.{AreLivingBy}
use Rattle.summary_chart.specs.Spreading.{IsByRule}
use Rattle.summary_chart.specs.Summaries.{key_with}
use Rattle.summary_chart.proofs.FrontKeys.{front_node, choices_possible, few_written}
use Rattle.summary_chart.proofs.PartRules.{written_living}
use Rattle.summary_chart.proofs.SpreadMemos.{choice_if_written, choice_numbered}
use Rattle.summary_chart.proofs.gathering.living_by_entered_rules.Goals as goal

pub choices_with-rules-requires : goal.choices_with-rules-requires
choices_with-rules-requires g c =
    let searched = c.args.here.site.lexicon.now in
    let front = c.args.front.now in
    subst (λ (t : AnnotatedTrie). front.node < length t.trie.rows) (sym c.tries-tries.ensures.value)
    (front_node searched c.requires.here.site.searched c.args.here.site.line.now (numbered_of searched c.args.here.site.place.now) front.phase front.taken front.node c.requires.front)

pub living_by_effects-requires-clause-rules : goal.living_by_effects-requires-clause-rules
living_by_effects-requires-clause-rules g c =
    let searched = c.args.here.site.lexicon.now in
    let node = c.args.front.now.node in
    let rules : c.choices_with-rules.result.now ≡ choices_with searched.tries node c.args.letter =
    c.choices_with-rules.ensures.value ∙ ap (λ (t : AnnotatedTrie). choices_with t node c.args.letter) c.tries-tries.ensures.value in
    let there = front_node searched c.requires.here.site.searched c.args.here.site.line.now (numbered_of searched c.args.here.site.place.now) c.args.front.now.phase c.args.front.now.taken node c.requires.front in
    subst (All (λ (rule : ℕ). 0 < rule)) (sym rules)
    (All-from_Contains (λ (rule : ℕ). 0 < rule) (choices_with searched.tries node c.args.letter)
    (λ rule among. choice_numbered searched node rule c.requires.here.site.searched there (choice_if_written searched.tries node c.args.letter rule among)))

pub living_by_effects-requires-clause-possible : goal.living_by_effects-requires-clause-possible
living_by_effects-requires-clause-possible g c =
    let searched = c.args.here.site.lexicon.now in
    let front = c.args.front.now in
    let line = c.args.here.site.line.now in
    let here = numbered_of searched c.args.here.site.place.now in
    let rules : c.choices_with-rules.result.now ≡ choices_with searched.tries front.node c.args.letter =
    c.choices_with-rules.ensures.value ∙ ap (λ (t : AnnotatedTrie). choices_with t front.node c.args.letter) c.tries-tries.ensures.value in
    subst (All (λ (rule : ℕ). IsPossible searched line here (key_with front.phase front.taken rule))) (sym rules)
    (choices_possible searched c.requires.here.site.searched line here front.phase front.taken front.node c.requires.front c.args.letter)

pub returns-then-rules-gt-FEW_RULES-clause-living : goal.returns-then-rules-gt-FEW_RULES-clause-living
returns-then-rules-gt-FEW_RULES-clause-living g c =
    let front = c.args.front.now in
    let site = c.args.here.site in
    written_living site.lexicon.now site.line.now site.choices.now site.place.now c.requires.here.site.searched front.phase front.taken front.node c.args.letter c.requires.front c.requires.letter
    c.args.table.now c.in_ok-found.found c.in_ok-found.ensures.living

pub returns-then-rules-gt-FEW_RULES-clause-steps : goal.returns-then-rules-gt-FEW_RULES-clause-steps
returns-then-rules-gt-FEW_RULES-clause-steps g c most few =
    let searched = c.args.here.site.lexicon.now in
    let front = c.args.front.now in
    let there = front_node searched c.requires.here.site.searched c.args.here.site.line.now (numbered_of searched c.args.here.site.place.now) front.phase front.taken front.node c.requires.front in
    let all = few front.node there in
    omega (arith, c.choices_with-rules.ensures.steps, c.living_by_entered_parts.ensures.steps, all)

pub returns-in_err-found-clause-steps : goal.returns-in_err-found-clause-steps
returns-in_err-found-clause-steps g c most few =
    let searched = c.args.here.site.lexicon.now in
    let front = c.args.front.now in
    let there = front_node searched c.requires.here.site.searched c.args.here.site.line.now (numbered_of searched c.args.here.site.place.now) front.phase front.taken front.node c.requires.front in
    let all = few front.node there in
    omega (arith, c.choices_with-rules.ensures.steps, c.living_by_entered_parts.ensures.steps, all)

pub returns-clause-living : goal.returns-clause-living
returns-clause-living g c =
    let searched = c.args.here.site.lexicon.now in
    let front = c.args.front.now in
    let rules : c.choices_with-rules.result.now ≡ choices_with searched.tries front.node c.args.letter =
    c.choices_with-rules.ensures.value ∙ ap (λ (t : AnnotatedTrie). choices_with t front.node c.args.letter) c.tries-tries.ensures.value in
    subst (λ (some : List ℕ). AreLivingBy searched c.args.here.site.line.now c.args.here.site.choices.now (numbered_of searched c.args.here.site.place.now) c.args.table.now
    (IsByRule front.phase front.taken some) c.in_ok-living.living) rules c.in_ok-living.ensures.living

pub returns-clause-steps : goal.returns-clause-steps
returns-clause-steps g c most few =
    let searched = c.args.here.site.lexicon.now in
    let front = c.args.front.now in
    let rules : c.choices_with-rules.result.now ≡ choices_with searched.tries front.node c.args.letter =
    c.choices_with-rules.ensures.value ∙ ap (λ (t : AnnotatedTrie). choices_with t front.node c.args.letter) c.tries-tries.ensures.value in
    let count = ap length rules in
    let short = few_written searched.tries front.node c.args.letter in
    let there = front_node searched c.requires.here.site.searched c.args.here.site.line.now (numbered_of searched c.args.here.site.place.now) front.phase front.taken front.node c.requires.front in
    let all = few front.node there in
    omega (arith, c.choices_with-rules.ensures.steps, c.living_by_effects.ensures.steps, count, short, all)

pub returns-in_err-living-clause-steps : goal.returns-in_err-living-clause-steps
returns-in_err-living-clause-steps g c most few =
    let searched = c.args.here.site.lexicon.now in
    let front = c.args.front.now in
    let rules : c.choices_with-rules.result.now ≡ choices_with searched.tries front.node c.args.letter =
    c.choices_with-rules.ensures.value ∙ ap (λ (t : AnnotatedTrie). choices_with t front.node c.args.letter) c.tries-tries.ensures.value in
    let count = ap length rules in
    let short = few_written searched.tries front.node c.args.letter in
    let there = front_node searched c.requires.here.site.searched c.args.here.site.line.now (numbered_of searched c.args.here.site.place.now) front.phase front.taken front.node c.requires.front in
    let all = few front.node there in
    omega (arith, c.choices_with-rules.ensures.steps, c.living_by_effects.ensures.steps, count, short, all)
