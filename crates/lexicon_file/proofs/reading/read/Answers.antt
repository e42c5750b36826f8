-- The first line tells the version; where it tells none, the file is read as one of version 1.
use Rattle.std.proofs.Common.{Ok}
use Rattle.std.proofs.lemmas.Result.{err_from_is_err_and}
use Rattle.form_file.specs.Contents.{lexicon_of}
use Rattle.lexicon_file.specs.Kinds.{version_of}
use Rattle.lexicon_file.proofs.VersionsRead.{lines_ok, lines_fault, as_forms, forms_fault}
use Rattle.lexicon_file.proofs.reading.read.Goals as goal

pub returns-in-Some-clause-ok : goal.returns-in-Some-clause-ok
returns-in-Some-clause-ok c =
    lines_ok c.args.bytes.now c.in-Some.lines.now (version_of c.in-Some.version) c.in-Some.ensures.told.0 c.in-Some.ensures.told.1 _ c.read_lines.result
    (λ contents. Ok (lexicon_of contents)) c.read_lines.ensures.ok

pub returns-in-Some-clause-fault : goal.returns-in-Some-clause-fault
returns-in-Some-clause-fault c =
    lines_fault c.args.bytes.now c.in-Some.lines.now (version_of c.in-Some.version) c.in-Some.ensures.told.0 c.in-Some.ensures.told.1 _ c.read_lines.result
    c.read_lines.ensures.fault

pub returns-in_err-contents-clause-fault : goal.returns-in_err-contents-clause-fault
returns-in_err-contents-clause-fault c =
    let p = err_from_is_err_and c.from_residual.result c.from_residual.ensures.1 in
    rw (p.1, p.2)
    (forms_fault c.args.bytes.now c.in_default.ensures.told c.in_err-contents.field-0.0 c.in_err-contents.ensures.fault)

pub returns-clause-ok : goal.returns-clause-ok
returns-clause-ok c =
    as_forms c.args.bytes.now c.in_default.ensures.told (Ok (lexicon_of c.in_ok-contents.contents)) c.in_ok-contents.ensures.ok
