-- The bytes are cut at the first line end; without one they are all one line.
use Rattle.std.proofs.Common.{◌<◌, length, arith}
use Rattle.std.proofs.lemmas.Bool.Decides.{nat_tests}
use Rattle.list_laws.proofs.CutLaws.{not_cut, cut_as_parted}
use Rattle.form_file.proofs.CutLemmas.{line_cut, whole_line}
use Rattle.form_file.proofs.cutting.first_line.Goals as goal

pub returns-in-Some-clause-line : goal.returns-in-Some-clause-line
returns-in-Some-clause-line c =
    line_cut c.args.bytes.now c.in-Some.line.now c.in-Some.rest.now (cut_as_parted 10 c.args.bytes.now c.in-Some.line.now c.in-Some.rest.now c.in-Some.ensures)

pub returns-else-is_empty-clause-line : goal.returns-else-is_empty-clause-line
returns-else-is_empty-clause-line c =
    let some : 0 < length c.args.bytes.now = grind (arith, nat_tests) in
    whole_line c.args.bytes.now (not_cut 10 c.args.bytes.now c.in_default.ensures) some
