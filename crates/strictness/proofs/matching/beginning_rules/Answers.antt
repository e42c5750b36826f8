-- A candidate is appended where it passes; all that pass are candidates.
use Rattle.std.proofs.Common.{ℕ, sym, subst}
use Rattle.std.specs.Ordering.{nat_cmp}
use Rattle.list_laws.specs.Firsts.{AreAll}
use Rattle.strictness.specs.Matches.{BeginsForm}
use Rattle.strictness.proofs.NumberLists.{IsAmong, none_among, candidate_passes, candidate_fails, all_among}
use Rattle.strictness.proofs.matching.beginning_rules.Goals as goal
use Rattle.strictness.proofs.matching.beginning_rules.Goals.{then-begins_form+in_ok-push, else-begins_form}

pub loop-number-init : goal.loop-number-init
loop-number-init c =
    let P : ℕ → Type 0 = BeginsForm c.args.rules.now c.args.phase c.args.form.now in
    subst (AreAll nat_cmp (IsAmong P c.args.candidates.now 0)) (sym c.new-numbers.ensures.items) (none_among P c.args.candidates.now)

pub loop-number-preserved : goal.loop-number-preserved
loop-number-preserved c =
    let P : ℕ → Type 0 = BeginsForm c.args.rules.now c.args.phase c.args.form.now in
    elim c.if-begins_form.branch [
      | then-begins_form+in_ok-push w ↦
          rw (w.numbers-is, w.in_ok-push.ensures.items)
          (candidate_passes P c.args.candidates.now c.loop-number.number-index c.loop-number.numbers.items c.requires.rising c.loop-number-test.true
          (c.begins_form.ensures.0 w.if-begins_form.true) c.loop-number.invariant)
      | else-begins_form w ↦
          rw w.numbers-is
          (candidate_fails P c.args.candidates.now c.loop-number.number-index c.loop-number.numbers.items c.loop-number-test.true
          (λ is. let yes = c.begins_form.ensures.1 is in let no = w.if-begins_form.false in absurd (cc)) c.loop-number.invariant)
    ]

pub returns : goal.returns
returns c = record {
  ok = all_among (BeginsForm c.args.rules.now c.args.phase c.args.form.now) c.args.candidates.now c.loop-number.number-index
      c.loop-number.numbers.items c.loop-number-test.false c.requires.complete c.loop-number.invariant;
}
