-- A refusal of the reader is why the file is refused.
use Rattle.std.proofs.Common.{◌≤◌, length, map, string_bytes, arith}
use Rattle.std.proofs.lemmas.Result.{err_from_is_err_and}
use Rattle.lexicon_text_definitions.specs.declared.limits.TheConstants.{MOST_FILE_BYTES}
use Rattle.commands.proofs.SourceFaults.{tables_error}
use Rattle.commands.proofs.build.read_table_file.Goals as goal

pub returns-in_err-tables-clause-refused : goal.returns-in_err-tables-clause-refused
returns-in_err-tables-clause-refused c =
    let p = err_from_is_err_and c.from_residual.result c.from_residual.ensures.1 in
    let within = c.if-bytes-gt-MOST_FILE_BYTES.false in
    let low : length c.args.bytes.now ≤ MOST_FILE_BYTES = omega (arith, within) in
    rw (p.1, p.2) (tables_error (map string_bytes c.args.phases.now) c.args.bytes.now c.in_err-tables.field-0.0 low c.in_err-tables.ensures.fault)
