-- A refusal of the reader is why the file is refused.
use Rattle.std.proofs.Common.{◌≤◌, length, arith}
use Rattle.std.proofs.lemmas.Result.{err_from_is_err_and}
use Rattle.lexicon_text_definitions.specs.declared.limits.TheConstants.{MOST_FILE_BYTES}
use Rattle.commands.proofs.SourceFaults.{rules_error}
use Rattle.commands.proofs.build.read_rule_file.Goals as goal

pub returns-in_err-file-clause-refused : goal.returns-in_err-file-clause-refused
returns-in_err-file-clause-refused c =
    let p = err_from_is_err_and c.from_residual.result c.from_residual.ensures.1 in
    let within = c.if-bytes-gt-MOST_FILE_BYTES.false in
    let low : length c.args.bytes.now ≤ MOST_FILE_BYTES = omega (arith, within) in
    rw (p.1, p.2) (rules_error c.args.bytes.now c.in_err-file.field-0.0 low c.in_err-file.ensures.fault)
