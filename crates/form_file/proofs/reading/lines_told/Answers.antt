-- Nothing was told before the first line.
use Rattle.std.proofs.Common.{Ok}
use Rattle.std.proofs.lemmas.Result.{err_from_is_err_and}
use Rattle.lexicon_text_definitions.specs.FileContents.{lexicon_told}
use Rattle.form_file.proofs.ReadLemmas.{read_as}
use Rattle.form_file.proofs.FaultsRead.{file_fault}
use Rattle.form_file.proofs.reading.lines_told.Goals as goal

pub returns-in_err-take_lines-clause-fault : goal.returns-in_err-take_lines-clause-fault
returns-in_err-take_lines-clause-fault c =
    let p = err_from_is_err_and c.from_residual-in_err-take_lines.result c.from_residual-in_err-take_lines.ensures.1 in
    rw (p.1, p.2) (file_fault c.args.bytes.now c.in_ok-told.told c.in_err-take_lines.field-0.0 c.in_ok-told.ensures c.in_err-take_lines.ensures.fault)

pub returns-clause-ok : goal.returns-clause-ok
returns-clause-ok c = read_as c.args.bytes.now c.in_ok-told.told (Ok (lexicon_told c.take_lines.new.told)) c.in_ok-told.ensures c.in_ok-take_lines.ensures.ok
