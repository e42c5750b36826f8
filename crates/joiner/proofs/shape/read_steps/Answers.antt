-- Step by step: one that is refused leaves nothing to read, and one that is read comes after those so far.
use Rattle.std.proofs.Common.{length, ap, arith}
use Rattle.std.proofs.lemmas.Result.{err_from_is_err_and}
use Rattle.joiner.specs.Triples.{change_of}
use Rattle.joiner.proofs.HandedOn.{handed_on}
use Rattle.joiner.proofs.StepsRead.{first_steps, form_refused, change_refused, step_read, end_refused, end_read, last_refused, last_read}
use Rattle.joiner.proofs.shape.read_steps.Goals as goal

pub loop-form-init : goal.loop-form-init
loop-form-init c = record {
  so_far = rw c.new-steps.ensures.items (first_steps c.args.text.now);
  few = omega (arith, ap length c.new-steps.ensures.items);
}

pub returns-in_err-form-clause-steps : goal.returns-in_err-form-clause-steps
returns-in_err-form-clause-steps c =
    let p = err_from_is_err_and c.from_residual.result c.from_residual.ensures.1 in
    rw (p.1, p.2) (handed_on _ _ _ _ c.in_err-form.field-0.0 _ _ c.in_err-form.ensures
    (form_refused c.args.text.now c.loop-form.rest.now c.in-Some.form.now c.in-Some.after.now c.loop-form.steps.items c.loop-form.invariant.so_far c.in-Some.ensures.cut))

pub returns-in_err-change-clause-steps : goal.returns-in_err-change-clause-steps
returns-in_err-change-clause-steps c =
    let p = err_from_is_err_and c.from_residual-in_err-change.result c.from_residual-in_err-change.ensures.1 in
    rw (p.1, p.2) (handed_on _ _ _ _ c.in_err-change.field-0.0 _ _ c.in_err-change.ensures
    (end_refused c.args.text.now c.loop-form.rest.now c.in-Some.form.now c.in-Some.after.now c.loop-form.steps.items c.loop-form.invariant.so_far c.in-Some.ensures.cut
    c.in_ok-form.form c.in_ok-form.ensures c.in_default-cut.ensures.cut))

pub returns-in_default-cut-clause-steps : goal.returns-in_default-cut-clause-steps
returns-in_default-cut-clause-steps c =
    end_read c.args.text.now c.loop-form.rest.now c.in-Some.form.now c.in-Some.after.now c.loop-form.steps.items c.loop-form.invariant.so_far c.in-Some.ensures.cut
    c.in_ok-form.form c.in_ok-form.ensures c.in_default-cut.ensures.cut (change_of c.in_ok-change.change) c.push.new.self.items c.in_ok-change.ensures
    c.in_ok-push.ensures.items

pub returns-in_err-change-2-clause-steps : goal.returns-in_err-change-2-clause-steps
returns-in_err-change-2-clause-steps c =
    let p = err_from_is_err_and c.from_residual-in_err-change-2.result c.from_residual-in_err-change-2.ensures.1 in
    rw (p.1, p.2) (handed_on _ _ _ _ c.in_err-change-2.field-0.0 _ _ c.in_err-change-2.ensures
    (change_refused c.args.text.now c.loop-form.rest.now c.in-Some.form.now c.in-Some.after.now c.loop-form.steps.items c.loop-form.invariant.so_far c.in-Some.ensures.cut
    c.in_ok-form.form c.in_ok-form.ensures c.in-Some-cut.change.now c.in-Some-cut.following.now c.in-Some-cut.ensures.cut))

pub loop-form-preserved : goal.loop-form-preserved
loop-form-preserved c = record {
  so_far = step_read c.args.text.now c.loop-form.rest.now c.in-Some.form.now c.in-Some.after.now c.loop-form.steps.items c.loop-form.invariant.so_far c.in-Some.ensures.cut
      c.in_ok-form.form c.in_ok-form.ensures c.in-Some-cut.change.now c.in-Some-cut.following.now c.in-Some-cut.ensures.cut (change_of c.in_ok-change-2.change)
      c.push-in-Some.new.self.items c.in_ok-change-2.ensures c.in_ok-push-2.ensures.items;
  few =
      let few = c.loop-form.invariant.few in
      let first = c.in-Some.ensures.within in
      let second = c.in-Some-cut.ensures.within in
      let pushed = c.in_ok-push-2.ensures.len in
      omega (arith, few, first, second, pushed);
}

pub returns-in_err-form-2-clause-steps : goal.returns-in_err-form-2-clause-steps
returns-in_err-form-2-clause-steps c =
    let p = err_from_is_err_and c.from_residual-in_err-form-2.result c.from_residual-in_err-form-2.ensures.1 in
    rw (p.1, p.2) (handed_on _ _ _ _ c.in_err-form-2.field-0.0 _ _ c.in_err-form-2.ensures
    (last_refused c.args.text.now c.loop-form.rest.now c.loop-form.steps.items c.loop-form.invariant.so_far c.in_default.ensures.cut))

pub returns-clause-steps : goal.returns-clause-steps
returns-clause-steps c =
    last_read c.args.text.now c.loop-form.rest.now c.loop-form.steps.items c.loop-form.invariant.so_far c.in_default.ensures.cut
    c.in_ok-form-2.form c.push-2.new.self.items c.in_ok-form-2.ensures c.in_ok-push-3.ensures.items
