-- One part more (`PartRules`); the rules of all parts are together no more than the choices.
use Rattle.std.proofs.Common.{◌≡◌, ◌≤◌, ◌↔◌, ℕ, List, get_or, length, take, sym, ap, subst, ◌∙◌, arith}
use Rattle.std.proofs.lemmas.List.{get_or_default}
use Rattle.std.proofs.lemmas.List.Sums.{sum_by-take-le, sum_by_more, sum_by_more_le}
use Rattle.annotated_trie.specs.Choices.{AnnotatedTrie, AreParts, choices_of, parts_of, rules_of_part}
use Rattle.summary_chart.specs.Memos.{IsOfParts, LivesBy}
use Rattle.summary_chart.specs.StateSets.{HasState}
use Rattle.summary_chart.proofs.PartRules.{lives_by_all, lives_by_none, lives_by_one_more}
use Rattle.summary_chart.proofs.living_work.living_by_parts.Goals as goal

pub loop-part-init : goal.loop-part-init
loop-part-init g c = record {
  low = omega arith;
  memo = c.requires.memo;
  ends = λ at low ends. ends;
  living = lives_by_none c.args.site.lexicon.now c.args.site.line.now c.args.table.now c.args.work.now c.parts-parts.result.now c.empty-living.result c.empty-living.ensures.none;
  spent = omega arith;
}

pub living_by_part-requires-clause-memo : goal.living_by_part-requires-clause-memo
living_by_part-requires-clause-memo g c = c.loop-part.invariant.memo

pub returns-in_err-found-clause-steps : goal.returns-in_err-found-clause-steps
returns-in_err-found-clause-steps g c =
    let searched = c.args.site.lexicon.now in
    let inv = c.loop-part.invariant in
    let parts = c.parts-parts.result.now in
    let f : ℕ → ℕ = λ part. length (rules_of_part searched.tries part) in
    let value : parts ≡ parts_of searched.tries c.args.work.now.node =
    c.parts-parts.ensures.value ∙ ap (λ (t : AnnotatedTrie). parts_of t c.args.work.now.node) c.tries-tries.ensures.value in
    let are = subst (AreParts searched.tries (choices_of searched.tries c.args.work.now.node)) (sym value) (c.requires.site.searched.tries.parts c.args.work.now.node c.requires.node) in
    let within = sum_by_more_le f parts c.loop-part.part-index 0 c.loop-part-test.true in
    omega (arith, inv.spent, c.living_by_part.ensures.steps, within, are.few, are.some, c.loop-part-test.true)

pub loop-part-preserved : goal.loop-part-preserved
loop-part-preserved g c =
    let searched = c.args.site.lexicon.now in
    let inv = c.loop-part.invariant in
    let parts = c.parts-parts.result.now in
    let part = get_or parts c.loop-part.part-index 0 in
    let f : ℕ → ℕ = λ one. length (rules_of_part searched.tries one) in
    let is : part ≡ get_or parts c.loop-part.part-index part = get_or_default parts c.loop-part.part-index 0 part c.loop-part-test.true in
    let more = sum_by_more f parts c.loop-part.part-index 0 c.loop-part-test.true in
    record {
      low = omega (arith, c.loop-part-test.true);
      memo = c.in_ok-found.ensures.memo;
      ends = λ at low ends. c.in_ok-found.ensures.ends at low (inv.ends at low ends);
      living = lives_by_one_more searched c.args.site.line.now c.args.table.now c.args.work.now parts c.loop-part.part-index part c.loop-part-test.true is
          c.loop-part.living c.in_ok-found.found c.union-living.result inv.living c.in_ok-found.ensures.living c.union-living.ensures;
      spent = omega (arith, inv.spent, c.living_by_part.ensures.steps, more);
    }

pub returns-clause-memo : goal.returns-clause-memo
returns-clause-memo g c = c.loop-part.invariant.memo

pub returns-clause-ends : goal.returns-clause-ends
returns-clause-ends g c = c.loop-part.invariant.ends

pub returns-clause-living : goal.returns-clause-living
returns-clause-living g c =
    let searched = c.args.site.lexicon.now in
    let line = c.args.site.line.now in
    let work = c.args.work.now in
    let inv = c.loop-part.invariant in
    let value : c.parts-parts.result.now ≡ parts_of searched.tries work.node =
    c.parts-parts.ensures.value ∙ ap (λ (t : AnnotatedTrie). parts_of t work.node) c.tries-tries.ensures.value in
    lives_by_all searched line c.args.table.now work c.loop-part.part-index c.requires.site.searched c.requires.node
    (subst (λ (parts : List ℕ). length parts ≤ c.loop-part.part-index) value (omega (arith, c.loop-part-test.false))) c.loop-part.living
    (subst (λ (parts : List ℕ). (number : ℕ) → HasState c.loop-part.living number ↔ LivesBy searched line c.args.table.now work (IsOfParts searched.tries (take c.loop-part.part-index parts)) number) value inv.living)

pub returns-clause-steps : goal.returns-clause-steps
returns-clause-steps g c =
    let searched = c.args.site.lexicon.now in
    let inv = c.loop-part.invariant in
    let parts = c.parts-parts.result.now in
    let f : ℕ → ℕ = λ part. length (rules_of_part searched.tries part) in
    let value : parts ≡ parts_of searched.tries c.args.work.now.node =
    c.parts-parts.ensures.value ∙ ap (λ (t : AnnotatedTrie). parts_of t c.args.work.now.node) c.tries-tries.ensures.value in
    let are = subst (AreParts searched.tries (choices_of searched.tries c.args.work.now.node)) (sym value) (c.requires.site.searched.tries.parts c.args.work.now.node c.requires.node) in
    let all = sum_by-take-le f parts c.loop-part.part-index in
    omega (arith, inv.spent, inv.low, all, are.few, are.some)
