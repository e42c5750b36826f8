-- The field is cut at its first bar, and the rest at its first sign; then no part has a mark, or there is no shape.
use Rattle.std.proofs.Common.{◌∙◌, ◌||◌, Some, None, sym}
use Rattle.lexicon_text_definitions.specs.FileLines.{has_mark}
use Rattle.std.proofs.lemmas.Bool.{cond-true, cond-false}
use Rattle.list_laws.proofs.CutLaws.{not_cut, cut_as_parted}
use Rattle.form_file.proofs.CutLemmas.{no_bar, no_sign, shape_cut}
use Rattle.form_file.proofs.cutting.rule_parts.Goals as goal

pub returns-in_default : goal.returns-in_default
returns-in_default c = no_bar c.args.field.now (not_cut 124 c.args.field.now c.in_default.ensures)

pub returns-in_default-cut_at : goal.returns-in_default-cut_at
returns-in_default-cut_at c =
    no_sign c.args.field.now c.in-Some.u.now c.in-Some.rest.now (cut_as_parted 124 c.args.field.now c.in-Some.u.now c.in-Some.rest.now c.in-Some.ensures)
    (not_cut 62 c.in-Some.rest.now c.in_default-cut_at.ensures)

pub returns-then-has_marks : goal.returns-then-has_marks
returns-then-has_marks c =
    shape_cut c.args.field.now c.in-Some.u.now c.in-Some.rest.now c.in-Some-cut_at.v.now c.in-Some-cut_at.w.now
    (cut_as_parted 124 c.args.field.now c.in-Some.u.now c.in-Some.rest.now c.in-Some.ensures)
    (cut_as_parted 62 c.in-Some.rest.now c.in-Some-cut_at.v.now c.in-Some-cut_at.w.now c.in-Some-cut_at.ensures)
    ∙ cond-true (has_mark c.in-Some.u.now || has_mark c.in-Some-cut_at.v.now || has_mark c.in-Some-cut_at.w.now) None (Some (record { u = c.in-Some.u.now; v = c.in-Some-cut_at.v.now; w = c.in-Some-cut_at.w.now })) (sym c.has_marks.ensures ∙ c.if-has_marks.true)

pub returns-else-has_marks : goal.returns-else-has_marks
returns-else-has_marks c =
    shape_cut c.args.field.now c.in-Some.u.now c.in-Some.rest.now c.in-Some-cut_at.v.now c.in-Some-cut_at.w.now
    (cut_as_parted 124 c.args.field.now c.in-Some.u.now c.in-Some.rest.now c.in-Some.ensures)
    (cut_as_parted 62 c.in-Some.rest.now c.in-Some-cut_at.v.now c.in-Some-cut_at.w.now c.in-Some-cut_at.ensures)
    ∙ cond-false (has_mark c.in-Some.u.now || has_mark c.in-Some-cut_at.v.now || has_mark c.in-Some-cut_at.w.now) None (Some (record { u = c.in-Some.u.now; v = c.in-Some-cut_at.v.now; w = c.in-Some-cut_at.w.now })) (sym c.has_marks.ensures ∙ c.if-has_marks.false)
