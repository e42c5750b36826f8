-- Each number that is pushed stands in its place.
use Rattle.std.proofs.Common.{◌≡◌, ℕ, ◌+◌, List, [], ◌∷◌, ◌++◌, length, get_or, sym, ap, ◌∙◌, subst, arith}
use Rattle.std.proofs.lemmas.List.{length_push}
use Rattle.summary_chart.proofs.SameU.{one_numbered}
use Rattle.summary_chart.proofs.same_u.rule_numbers.Goals as goal

pub loop-number-preserved : goal.loop-number-preserved
loop-number-preserved c =
    let inv = c.loop-number.invariant in
    let numbers = c.loop-number.numbers.items in
    let number = c.loop-number.number in
    let pushed : c.push.new.self.items ≡ numbers ++ number ∷ [] = c.in_ok-push.ensures.items in
    let size : length numbers ≡ number = inv.size in
    record {
      count = inv.count;
      size = ap length pushed ∙ length_push numbers number ∙ ap (λ (n : ℕ). n + 1) size;
      each = λ n below. subst (λ (xs : List ℕ). get_or xs n 0 ≡ n) (sym pushed) (one_numbered numbers number n size inv.each below);
    }

pub returns : goal.returns
returns c =
    let inv = c.loop-number.invariant in
    record {
      size = omega (arith, inv.size, inv.count, c.loop-number.auto.number-end, c.loop-number-test.false);
      each = λ rule few. inv.each rule (omega (arith, few, inv.count, c.loop-number-test.false));
    }
