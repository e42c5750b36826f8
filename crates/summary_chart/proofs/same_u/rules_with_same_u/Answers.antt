-- Sorting keeps the numbers, and a rule takes the place of another only where both have the same u (`SameU`).
use Rattle.std.proofs.Common.{◌≡◌, ℕ, ◌≤◌, length, get_or, All, sym, ap, subst, ◌∙◌, arith}
use Rattle.std.proofs.lemmas.List.Elements.{All-get_or}
use Rattle.std.proofs.lemmas.List.Sorted.{All-permutation}
use Rattle.lexicon_definitions.specs.Lexicons.{rule_of}
use Rattle.summary_chart.specs.Summaries.{HaveSameU}
use Rattle.summary_chart.proofs.SameU.{each_itself, all_few, one_put, same_words}
use Rattle.summary_chart.proofs.same_u.rules_with_same_u.Goals as goal
use Rattle.summary_chart.proofs.same_u.rules_with_same_u.Goals.{then-is_eq, else-is_eq}

pub loop-number-init : goal.loop-number-init
loop-number-init c =
    let rules = c.args.rules.now in
    let numbers = c.in_ok-numbers.numbers.items in
    let are = c.in_ok-numbers.ensures in
    record {
      same = subst (HaveSameU rules) (sym c.in_ok-same.ensures.items) (subst (HaveSameU rules) (sym c.as_slice.ensures.value) (each_itself rules numbers are));
      last = omega arith;
      numbers = subst (All (λ (n : ℕ). n ≤ length rules.rules)) (sym c.as_slice-number-items.ensures.value)
          (All-permutation (λ (n : ℕ). n ≤ length rules.rules) numbers c.sort_unstable_by.new.self.items c.sort_unstable_by.ensures.permutation (all_few rules numbers are));
    }

pub loop-number-preserved : goal.loop-number-preserved
loop-number-preserved c =
    let rules = c.args.rules.now in
    let inv = c.loop-number.invariant in
    let numbers = c.as_slice-number-items.result.now in
    let number = get_or numbers c.loop-number.number-index 0 in
    let low : number ≤ length rules.rules =
    All-get_or (λ (n : ℕ). n ≤ length rules.rules) numbers c.loop-number.number-index 0 c.loop-number-test.true inv.numbers in
    elim c.if-is_eq.branch [
      | then-is_eq w ↦
          let equal : (rule_of rules c.loop-number.last).u ≡ (rule_of rules number).u =
          sym c.u_of.ensures ∙ same_words c.u_of.result.now c.u_of-in-loop-number.result.now c.compare_letters.result c.compare_letters.ensures c.is_eq.result c.is_eq.ensures w.if-is_eq.true ∙ c.u_of-in-loop-number.ensures in
          record {
            same = subst (HaveSameU rules) (sym (ap (λ v. v.items) w.same-is))
                (one_put rules c.loop-number.same.items number c.loop-number.last inv.same low inv.last equal);
            last = (let is = w.last-is in omega (arith, is, inv.last));
            numbers = inv.numbers;
          }
      | else-is_eq w ↦ record {
        same = subst (HaveSameU rules) (sym (ap (λ v. v.items) w.same-is)) inv.same;
        last = (let is = w.last-is in omega (arith, is, low));
        numbers = inv.numbers;
      }
    ]
