-- The line is cut at its first blank.
use Rattle.std.proofs.Common.{ap}
use Rattle.lexicon_text_definitions.specs.FileLines.{parts_or_all}
use Rattle.list_laws.proofs.CutLaws.{not_cut, cut_as_parted}
use Rattle.form_file.proofs.cutting.kind_and_rest.Goals as goal

pub returns-in-Some : goal.returns-in-Some
returns-in-Some c =
    ap (parts_or_all c.args.line.now) (cut_as_parted 32 c.args.line.now c.in-Some.kind.now c.in-Some.rest.now c.in-Some.ensures)

pub returns-in-None : goal.returns-in-None
returns-in-None c = ap (parts_or_all c.args.line.now) (not_cut 32 c.args.line.now c.in-None.ensures)
