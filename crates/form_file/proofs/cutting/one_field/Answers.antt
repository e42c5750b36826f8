-- A text with a blank has more fields than one.
use Rattle.list_laws.proofs.CutLaws.{not_cut, cut_as_parted}
use Rattle.form_file.proofs.CutLemmas.{not_one_cut, fields_whole}
use Rattle.form_file.proofs.cutting.one_field.Goals as goal

pub returns-in-Some : goal.returns-in-Some
returns-in-Some c = not_one_cut c.args.text.now _ _ (cut_as_parted 32 c.args.text.now _ _ c.in-Some.ensures)

pub returns-in-None : goal.returns-in-None
returns-in-None c = fields_whole c.args.text.now (not_cut 32 c.args.text.now c.in-None.ensures)
