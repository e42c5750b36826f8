-- What is found is the cut.
use Rattle.list_laws.proofs.CutLaws.{not_cut, cut_as_parted}
use Rattle.rule_file.proofs.cutting.cut.Goals as goal

pub returns-in_default : goal.returns-in_default
returns-in_default c = not_cut c.args.mark c.args.text.now c.in_default.ensures

pub returns : goal.returns
returns c = cut_as_parted c.args.mark c.args.text.now c.in-Some.front.now c.in-Some.rest.now c.in-Some.ensures
