use Rattle.std.proofs.lemmas.Result.{err_from_is_err_and}
use Rattle.paradigms.proofs.reading.read_tables.Goals as goal

pub returns-in_err-take_table_file-clause-fault : goal.returns-in_err-take_table_file-clause-fault
returns-in_err-take_table_file-clause-fault c =
    let p = err_from_is_err_and c.from_residual.result c.from_residual.ensures.1 in
    rw (p.1, p.2) c.in_err-take_table_file.ensures.fault
