-- The rule with the number is appended where it passes; each rule's number is below the last bound.
use Rattle.std.proofs.Common.{ℕ, length, ap, sym, subst, arith}
use Rattle.std.specs.Ordering.{nat_cmp}
use Rattle.list_laws.specs.Firsts.{AreAll}
use Rattle.strictness.specs.Matches.{HasFirst}
use Rattle.strictness.proofs.NumberLists.{IsBelow, none_below, passes, fails, all_below}
use Rattle.strictness.proofs.letters.rules_with_first.Goals as goal
use Rattle.strictness.proofs.letters.rules_with_first.Goals.{then-has_first+in_ok-push, else-has_first}

pub loop-number-init : goal.loop-number-init
loop-number-init c =
    subst (AreAll nat_cmp (IsBelow (HasFirst c.args.rules.now c.args.letter) 0)) (sym c.new-numbers.ensures.items)
    (none_below (HasFirst c.args.rules.now c.args.letter))

pub loop-number-preserved : goal.loop-number-preserved
loop-number-preserved c =
    let P : ℕ → Type 0 = HasFirst c.args.rules.now c.args.letter in
    elim c.if-has_first.branch [
      | then-has_first+in_ok-push w ↦
          rw (w.numbers-is, w.in_ok-push.ensures.items)
          (passes P c.loop-number.number c.loop-number.numbers.items (c.has_first.ensures.0 w.if-has_first.true) c.loop-number.invariant)
      | else-has_first w ↦
          rw w.numbers-is
          (fails P c.loop-number.number c.loop-number.numbers.items
          (λ has. let yes = c.has_first.ensures.1 has in let no = w.if-has_first.false in absurd (cc)) c.loop-number.invariant)
    ]

pub returns : goal.returns
returns c = record {
  ok = all_below (HasFirst c.args.rules.now c.args.letter) c.loop-number.number c.loop-number.numbers.items
      (λ n has. omega (arith, has.rule, ap length c.rules.ensures.value)) c.loop-number.invariant;
}
