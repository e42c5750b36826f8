-- Part by part: where one is refused, so is the form.
use Rattle.std.proofs.Common.{sym, ◌∙◌}
use Rattle.std.proofs.lemmas.Result.{err_from_is_err_and}
use Rattle.joiner.proofs.HandedOn.{handed_on}
use Rattle.joiner.proofs.PartsRead.{no_parts, no_end, no_name, no_letters, form_read}
use Rattle.joiner.proofs.shape.read_form.Goals as goal

pub returns-in_default : goal.returns-in_default
returns-in_default c = no_parts c.args.text.now c.in_default.ensures.cut

pub returns-in_default-closed_by : goal.returns-in_default-closed_by
returns-in_default-closed_by c =
    no_end c.args.text.now c.in-Some.letters.now c.in-Some.rest.now c.in-Some.ensures.cut c.in_default-closed_by.ensures.closed

pub returns-then-not-is_phase_name : goal.returns-then-not-is_phase_name
returns-then-not-is_phase_name c =
    no_name c.args.text.now c.in-Some.letters.now c.in-Some.rest.now c.in-Some.ensures.cut c.in-Some-closed_by.name.now c.in-Some-closed_by.ensures.closed
    (sym c.is_phase_name.ensures ∙ c.if-not-is_phase_name.true)

pub returns-in_err-letters : goal.returns-in_err-letters
returns-in_err-letters c =
    let p = err_from_is_err_and c.from_residual.result c.from_residual.ensures.1 in
    rw (p.1, p.2) (handed_on _ _ _ _ c.in_err-letters.field-0.0 _ _ c.in_err-letters.ensures
    (no_letters c.args.text.now c.in-Some.letters.now c.in-Some.rest.now c.in-Some.ensures.cut c.in-Some-closed_by.name.now c.in-Some-closed_by.ensures.closed))

pub returns : goal.returns
returns c =
    rw c.in_ok-name.ensures.items
    (form_read c.args.text.now c.in-Some.letters.now c.in-Some.rest.now c.in-Some.ensures.cut c.in-Some-closed_by.name.now c.in-Some-closed_by.ensures.closed
    c.in_ok-letters.letters (sym c.is_phase_name.ensures ∙ c.if-not-is_phase_name.false) c.in_ok-letters.ensures)
