-- The text is cut at its first blank, and the rest is one field.
use Rattle.std.proofs.Common.{◌∷◌, ◌∙◌, ap}
use Rattle.list_laws.proofs.CutLaws.{not_cut, cut_as_parted}
use Rattle.form_file.proofs.CutLemmas.{fields_cut, not_two_whole, not_two_rest}
use Rattle.form_file.proofs.cutting.two_fields.Goals as goal

pub returns-in_default : goal.returns-in_default
returns-in_default c = not_two_whole c.args.text.now (not_cut 32 c.args.text.now c.in_default.ensures)

pub returns-in-Some-one_field : goal.returns-in-Some-one_field
returns-in-Some-one_field c =
    fields_cut c.args.text.now c.in-Some.first.now c.in-Some.rest.now (cut_as_parted 32 c.args.text.now c.in-Some.first.now c.in-Some.rest.now c.in-Some.ensures)
    ∙ ap (◌∷◌ c.in-Some.first.now) c.in-Some-one_field.ensures

pub returns-in-None : goal.returns-in-None
returns-in-None c =
    not_two_rest c.args.text.now c.in-Some.first.now c.in-Some.rest.now (cut_as_parted 32 c.args.text.now c.in-Some.first.now c.in-Some.rest.now c.in-Some.ensures) c.in-None.ensures
