-- The text is cut at its first three blanks.
use Rattle.list_laws.proofs.CutLaws.{not_cut, cut_as_parted}
use Rattle.form_file.proofs.CutLemmas.{not_four_whole, not_four_second, not_four_third, three_fields_are}
use Rattle.form_file.proofs.cutting.three_fields_and_rest.Goals as goal

pub returns-in_default : goal.returns-in_default
returns-in_default c = not_four_whole c.args.text.now (not_cut 32 c.args.text.now c.in_default.ensures)

pub returns-in_default-cut_at_blank : goal.returns-in_default-cut_at_blank
returns-in_default-cut_at_blank c =
    not_four_second c.args.text.now c.in-Some.first.now c.in-Some.rest.now (cut_as_parted 32 c.args.text.now c.in-Some.first.now c.in-Some.rest.now c.in-Some.ensures)
    (not_cut 32 c.in-Some.rest.now c.in_default-cut_at_blank.ensures)

pub returns-in-Some-cut_at_blank-2 : goal.returns-in-Some-cut_at_blank-2
returns-in-Some-cut_at_blank-2 c =
    three_fields_are c.args.text.now c.in-Some.first.now c.in-Some.rest.now c.in-Some-cut_at_blank.second.now c.in-Some-cut_at_blank.rest.now c.in-Some-cut_at_blank-2.third.now c.in-Some-cut_at_blank-2.rest.now
    (cut_as_parted 32 c.args.text.now c.in-Some.first.now c.in-Some.rest.now c.in-Some.ensures)
    (cut_as_parted 32 c.in-Some.rest.now c.in-Some-cut_at_blank.second.now c.in-Some-cut_at_blank.rest.now c.in-Some-cut_at_blank.ensures)
    (cut_as_parted 32 c.in-Some-cut_at_blank.rest.now c.in-Some-cut_at_blank-2.third.now c.in-Some-cut_at_blank-2.rest.now c.in-Some-cut_at_blank-2.ensures)

pub returns-in-None : goal.returns-in-None
returns-in-None c =
    not_four_third c.args.text.now c.in-Some.first.now c.in-Some.rest.now c.in-Some-cut_at_blank.second.now c.in-Some-cut_at_blank.rest.now
    (cut_as_parted 32 c.args.text.now c.in-Some.first.now c.in-Some.rest.now c.in-Some.ensures)
    (cut_as_parted 32 c.in-Some.rest.now c.in-Some-cut_at_blank.second.now c.in-Some-cut_at_blank.rest.now c.in-Some-cut_at_blank.ensures)
    (not_cut 32 c.in-Some-cut_at_blank.rest.now c.in-None.ensures)
