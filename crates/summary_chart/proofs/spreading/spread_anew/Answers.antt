-- The rules that begin with the next letter are looked at one by one, or as those of all parts that lead on (`PartRules`).
use Rattle.std.proofs.Common.{◌≡◌, ℕ, ◌<◌, List, length, All, ap, sym, subst, ◌∙◌, arith}
use Rattle.list_laws.proofs.Sorted.{All-from_Contains}
use Rattle.annotated_trie.specs.Choices.{AnnotatedTrie, choices_with}
use Rattle.search_frames.specs.Configurations.{IsPossible}
use Rattle.search_frames.specs.Frames.{numbered_of}
use Rattle.summary_chart.specs.Onward.{Puts}
use Rattle.summary_chart.specs.Spreading.{IsByRule}
use Rattle.summary_chart.specs.Summaries.{key_with}
use Rattle.summary_chart.proofs.FrontKeys.{front_node, choices_possible, few_written}
use Rattle.summary_chart.proofs.PartRules.{written_puts}
use Rattle.summary_chart.proofs.SameKeys.{lead_same_if_entered}
use Rattle.summary_chart.proofs.SpreadMemos.{all_grown, choice_if_written, choice_numbered}
use Rattle.summary_chart.proofs.spreading.spread_anew.Goals as goal

pub choices_with-rules-requires : goal.choices_with-rules-requires
choices_with-rules-requires g c =
    let searched = c.args.onward.here.site.lexicon.now in
    let there = front_node searched c.requires.onward.here.site.searched c.args.onward.here.site.line.now (numbered_of searched c.args.onward.here.site.place.now) c.args.ruled.front.now.phase c.args.ruled.front.now.taken c.args.ruled.front.now.node c.requires.front in
    subst (λ (t : AnnotatedTrie). c.args.ruled.front.now.node < length t.trie.rows) (sym c.tries-tries.ensures.value) there

pub spread_effects-requires-clause-possible : goal.spread_effects-requires-clause-possible
spread_effects-requires-clause-possible g c =
    let searched = c.args.onward.here.site.lexicon.now in
    let line = c.args.onward.here.site.line.now in
    let here = numbered_of searched c.args.onward.here.site.place.now in
    let rules : c.choices_with-rules.result.now ≡ choices_with searched.tries c.args.ruled.front.now.node c.args.letter =
    c.choices_with-rules.ensures.value ∙ ap (λ (t : AnnotatedTrie). choices_with t c.args.ruled.front.now.node c.args.letter) c.tries-tries.ensures.value in
    subst (All (λ (rule : ℕ). IsPossible searched line here (key_with c.args.ruled.front.now.phase c.args.ruled.front.now.taken rule))) (sym rules)
    (choices_possible searched c.requires.onward.here.site.searched line here c.args.ruled.front.now.phase c.args.ruled.front.now.taken c.args.ruled.front.now.node c.requires.front c.args.letter)

pub spread_effects-requires-clause-leads : goal.spread_effects-requires-clause-leads
spread_effects-requires-clause-leads g c =
    let front = c.args.ruled.front.now in
    lead_same_if_entered c.args.onward.here front.taken c.args.ruled.may_end front.phase c.requires.onward.here c.requires.onward.begins c.requires.does

pub spread_effects-requires-clause-rules : goal.spread_effects-requires-clause-rules
spread_effects-requires-clause-rules g c =
    let searched = c.args.onward.here.site.lexicon.now in
    let node = c.args.ruled.front.now.node in
    let rules : c.choices_with-rules.result.now ≡ choices_with searched.tries node c.args.letter =
    c.choices_with-rules.ensures.value ∙ ap (λ (t : AnnotatedTrie). choices_with t node c.args.letter) c.tries-tries.ensures.value in
    let there = front_node searched c.requires.onward.here.site.searched c.args.onward.here.site.line.now (numbered_of searched c.args.onward.here.site.place.now) c.args.ruled.front.now.phase c.args.ruled.front.now.taken c.args.ruled.front.now.node c.requires.front in
    subst (All (λ (rule : ℕ). 0 < rule)) (sym rules)
    (All-from_Contains (λ (rule : ℕ). 0 < rule) (choices_with searched.tries node c.args.letter)
    (λ rule among. choice_numbered searched node rule c.requires.onward.here.site.searched there (choice_if_written searched.tries node c.args.letter rule among)))

pub returns-then-rules-gt-FEW_RULES-clause-spreads : goal.returns-then-rules-gt-FEW_RULES-clause-spreads
returns-then-rules-gt-FEW_RULES-clause-spreads g c =
    let front = c.args.ruled.front.now in
    written_puts c.args.onward.here.site.lexicon.now c.args.onward.here.site.line.now c.args.onward.here.site.choices.now c.args.onward.here.site.place.now c.requires.onward.here.site.searched
    front.phase front.taken front.node c.args.letter c.requires.front c.requires.letter c.args.onward.after c.args.table.now c.spread_parts.new.table c.in_ok-spread_parts.ensures.spreads

pub returns-then-rules-gt-FEW_RULES-clause-steps : goal.returns-then-rules-gt-FEW_RULES-clause-steps
returns-then-rules-gt-FEW_RULES-clause-steps g c most few =
    let searched = c.args.onward.here.site.lexicon.now in
    let there = front_node searched c.requires.onward.here.site.searched c.args.onward.here.site.line.now (numbered_of searched c.args.onward.here.site.place.now) c.args.ruled.front.now.phase c.args.ruled.front.now.taken c.args.ruled.front.now.node c.requires.front in
    let all = few c.args.ruled.front.now.node there in
    omega (arith, c.choices_with-rules.ensures.steps, c.spread_parts.ensures.steps, all)

pub returns-in_err-spread_parts-clause-steps : goal.returns-in_err-spread_parts-clause-steps
returns-in_err-spread_parts-clause-steps g c most few =
    let searched = c.args.onward.here.site.lexicon.now in
    let there = front_node searched c.requires.onward.here.site.searched c.args.onward.here.site.line.now (numbered_of searched c.args.onward.here.site.place.now) c.args.ruled.front.now.phase c.args.ruled.front.now.taken c.args.ruled.front.now.node c.requires.front in
    let all = few c.args.ruled.front.now.node there in
    omega (arith, c.choices_with-rules.ensures.steps, c.spread_parts.ensures.steps, all)

pub returns-clause-memo : goal.returns-clause-memo
returns-clause-memo g c =
    let grown = all_grown c.args.onward.here.site.lexicon.now c.args.onward.here.site.line.now c.args.table.now c.spread_effects.new.table c.args.memo.now
    c.in_ok-spread_effects.ensures.spreads.keeps c.requires.memo in
    record { works = grown.works; spread = grown.spread; effects = c.in_ok-spread_effects.ensures.effects }

pub returns-clause-spreads : goal.returns-clause-spreads
returns-clause-spreads g c =
    let searched = c.args.onward.here.site.lexicon.now in
    let front = c.args.ruled.front.now in
    let node = front.node in
    let rules : c.choices_with-rules.result.now ≡ choices_with searched.tries node c.args.letter =
    c.choices_with-rules.ensures.value ∙ ap (λ (t : AnnotatedTrie). choices_with t node c.args.letter) c.tries-tries.ensures.value in
    subst (λ (some : List ℕ). Puts searched c.args.onward.here.site.line.now c.args.onward.here.site.choices.now (numbered_of searched c.args.onward.here.site.place.now) c.args.onward.after
    (IsByRule front.phase front.taken some) c.args.table.now c.spread_effects.new.table) rules c.in_ok-spread_effects.ensures.spreads

pub returns-clause-steps : goal.returns-clause-steps
returns-clause-steps g c most few =
    let searched = c.args.onward.here.site.lexicon.now in
    let node = c.args.ruled.front.now.node in
    let rules : c.choices_with-rules.result.now ≡ choices_with searched.tries node c.args.letter =
    c.choices_with-rules.ensures.value ∙ ap (λ (t : AnnotatedTrie). choices_with t node c.args.letter) c.tries-tries.ensures.value in
    let there = front_node searched c.requires.onward.here.site.searched c.args.onward.here.site.line.now (numbered_of searched c.args.onward.here.site.place.now) c.args.ruled.front.now.phase c.args.ruled.front.now.taken c.args.ruled.front.now.node c.requires.front in
    let count = ap length rules in
    let short = few_written searched.tries node c.args.letter in
    let all = few node there in
    omega (arith, c.choices_with-rules.ensures.steps, c.spread_effects.ensures.steps, count, short, all)

pub returns-in_err-spread_effects-clause-steps : goal.returns-in_err-spread_effects-clause-steps
returns-in_err-spread_effects-clause-steps g c most few =
    let searched = c.args.onward.here.site.lexicon.now in
    let node = c.args.ruled.front.now.node in
    let rules : c.choices_with-rules.result.now ≡ choices_with searched.tries node c.args.letter =
    c.choices_with-rules.ensures.value ∙ ap (λ (t : AnnotatedTrie). choices_with t node c.args.letter) c.tries-tries.ensures.value in
    let there = front_node searched c.requires.onward.here.site.searched c.args.onward.here.site.line.now (numbered_of searched c.args.onward.here.site.place.now) c.args.ruled.front.now.phase c.args.ruled.front.now.taken c.args.ruled.front.now.node c.requires.front in
    let count = ap length rules in
    let short = few_written searched.tries node c.args.letter in
    let all = few node there in
    omega (arith, c.choices_with-rules.ensures.steps, c.spread_effects.ensures.steps, count, short, all)
