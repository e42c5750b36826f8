-- Sorting keeps the numbers, and a rule takes the place of another only where both do the same (`SameEffects`).
use Rattle.std.proofs.Common.{ℕ, ◌≤◌, length, get_or, All, sym, ap, subst, arith}
use Rattle.std.proofs.lemmas.List.Elements.{All-get_or}
use Rattle.std.proofs.lemmas.List.Sorted.{All-permutation}
use Rattle.summary_chart.specs.Effects.{HaveSameEffect}
use Rattle.summary_chart.proofs.SameU.{all_few}
use Rattle.summary_chart.proofs.SameEffects.{each_does, one_stands}
use Rattle.summary_chart.proofs.same_effect.rules_with_same_effect.Goals as goal
use Rattle.summary_chart.proofs.same_effect.rules_with_same_effect.Goals.{then-do_same, else-do_same}

pub loop-number-init : goal.loop-number-init
loop-number-init c =
    let rules = c.args.rules.now in
    let numbers = c.in_ok-numbers.numbers.items in
    let are = c.in_ok-numbers.ensures in
    record {
      same = subst (HaveSameEffect rules) (sym c.in_ok-same.ensures.items)
          (subst (HaveSameEffect rules) (sym c.as_slice.ensures.value) (each_does rules numbers are));
      last = omega arith;
      numbers = subst (All (λ (n : ℕ). n ≤ length rules.rules)) (sym c.as_slice-number-items.ensures.value)
          (All-permutation (λ (n : ℕ). n ≤ length rules.rules) numbers c.sort_unstable_by.new.self.items c.sort_unstable_by.ensures.permutation (all_few rules numbers are));
    }

pub loop-number-preserved : goal.loop-number-preserved
loop-number-preserved c =
    let rules = c.args.rules.now in
    let inv = c.loop-number.invariant in
    let numbers = c.as_slice-number-items.result.now in
    let number = get_or numbers c.loop-number.number-index 0 in
    let low : number ≤ length rules.rules =
    All-get_or (λ (n : ℕ). n ≤ length rules.rules) numbers c.loop-number.number-index 0 c.loop-number-test.true inv.numbers in
    elim c.if-do_same.branch [
      | then-do_same w ↦ record {
        same = subst (HaveSameEffect rules) (sym (ap (λ v. v.items) w.same-is))
            (one_stands rules c.loop-number.same.items number c.loop-number.last inv.same low inv.last w.if-do_same.ensures);
        last = (let is = w.last-is in omega (arith, is, inv.last));
        numbers = inv.numbers;
      }
      | else-do_same w ↦ record {
        same = subst (HaveSameEffect rules) (sym (ap (λ v. v.items) w.same-is)) inv.same;
        last = (let is = w.last-is in omega (arith, is, low));
        numbers = inv.numbers;
      }
    ]
