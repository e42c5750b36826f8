-- The stems that are read are inflectable.
use Rattle.std.proofs.lemmas.Result.{err_from_is_err_and}
use Rattle.paradigm_file_definitions.proofs.StemsTaken.{all_inflectable_stems}
use Rattle.paradigms.proofs.reading.read_stems.Goals as goal

pub returns-in_err-take_stem_file-clause-fault : goal.returns-in_err-take_stem_file-clause-fault
returns-in_err-take_stem_file-clause-fault c =
    let p = err_from_is_err_and c.from_residual.result c.from_residual.ensures.1 in
    rw (p.1, p.2) c.in_err-take_stem_file.ensures.fault

pub returns-clause-inflectable : goal.returns-clause-inflectable
returns-clause-inflectable c = all_inflectable_stems c.args.tables.now c.args.bytes.now c.take_stem_file.new.stems c.in_ok-take_stem_file.ensures.ok
