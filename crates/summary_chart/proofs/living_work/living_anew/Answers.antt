-- The rules that begin with the next letter are all that can stand (`LivingKeys`), and so are the choices part by part.
use Rattle.std.proofs.Common.{◌≡◌, ℕ, ◌<◌, ◌≤◌, ◌↔◌, List, length, All, Contains, sym, ap, subst, ◌∙◌, arith}
use Rattle.list_laws.proofs.Sorted.{All-from_Contains}
use Rattle.annotated_trie.specs.Choices.{AnnotatedTrie, choices_with}
use Rattle.search_frames.specs.Configurations.{rules_in}
use Rattle.summary_chart.specs.Memos.{LivesBy}
use Rattle.summary_chart.specs.StateSets.{HasState}
use Rattle.summary_chart.proofs.FrontKeys.{few_written}
use Rattle.summary_chart.proofs.LivingKeys.{choice_number, lives_written}
use Rattle.summary_chart.proofs.SpreadMemos.{choice_if_written}
use Rattle.summary_chart.proofs.living_work.living_anew.Goals as goal

pub living_by_rules-requires-clause-rules : goal.living_by_rules-requires-clause-rules
living_by_rules-requires-clause-rules g c =
    let searched = c.args.site.lexicon.now in
    let node = c.args.work.now.node in
    let Named = λ (rule : ℕ). (0 < rule) × (rule ≤ length (rules_in searched).rules) in
    let rules : c.choices_with-rules.result.now ≡ choices_with searched.tries node c.args.letter =
    c.choices_with-rules.ensures.value ∙ ap (λ (t : AnnotatedTrie). choices_with t node c.args.letter) c.tries-tries.ensures.value in
    subst (All Named) (sym rules)
    (All-from_Contains Named (choices_with searched.tries node c.args.letter)
    (λ rule among. choice_number searched node rule c.requires.site.searched c.requires.node (choice_if_written searched.tries node c.args.letter rule among)))

pub returns-clause-living : goal.returns-clause-living
returns-clause-living g c =
    let searched = c.args.site.lexicon.now in
    let work = c.args.work.now in
    let node = work.node in
    let living = c.in_ok-living.living in
    let rules : c.choices_with-rules.result.now ≡ choices_with searched.tries node c.args.letter =
    c.choices_with-rules.ensures.value ∙ ap (λ (t : AnnotatedTrie). choices_with t node c.args.letter) c.tries-tries.ensures.value in
    lives_written searched c.args.site.line.now c.args.table.now work c.args.letter c.requires.site.searched c.requires.node c.requires.end c.requires.letter living
    (subst (λ (some : List ℕ). (number : ℕ) → HasState living number ↔ LivesBy searched c.args.site.line.now c.args.table.now work (Contains some) number)
    rules c.in_ok-living.ensures.living)

pub returns-clause-steps : goal.returns-clause-steps
returns-clause-steps g c most few =
    let searched = c.args.site.lexicon.now in
    let node = c.args.work.now.node in
    let rules : c.choices_with-rules.result.now ≡ choices_with searched.tries node c.args.letter =
    c.choices_with-rules.ensures.value ∙ ap (λ (t : AnnotatedTrie). choices_with t node c.args.letter) c.tries-tries.ensures.value in
    let count = ap length rules in
    let short = few_written searched.tries node c.args.letter in
    let all = few node c.requires.node in
    omega (arith, c.choices_with-rules.ensures.steps, c.living_by_rules.ensures.steps, count, short, all)

pub returns-in_err-living-clause-steps : goal.returns-in_err-living-clause-steps
returns-in_err-living-clause-steps g c most few =
    let searched = c.args.site.lexicon.now in
    let node = c.args.work.now.node in
    let rules : c.choices_with-rules.result.now ≡ choices_with searched.tries node c.args.letter =
    c.choices_with-rules.ensures.value ∙ ap (λ (t : AnnotatedTrie). choices_with t node c.args.letter) c.tries-tries.ensures.value in
    let count = ap length rules in
    let short = few_written searched.tries node c.args.letter in
    let all = few node c.requires.node in
    omega (arith, c.choices_with-rules.ensures.steps, c.living_by_rules.ensures.steps, count, short, all)
