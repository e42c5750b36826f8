-- A refusal of the conversion is why the file is refused.
use Rattle.std.proofs.Common.{◌≤◌, length, arith}
use Rattle.std.proofs.lemmas.Result.{err_from_is_err_and}
use Rattle.lexicon_text_definitions.specs.declared.limits.TheConstants.{MOST_FILE_BYTES}
use Rattle.more_schemes.specs.Values.{any_scheme_of}
use Rattle.commands.proofs.SourceFaults.{conversion_error}
use Rattle.commands.proofs.convert.convert_file.Goals as goal

pub returns-in_err-text-clause-refused : goal.returns-in_err-text-clause-refused
returns-in_err-text-clause-refused c =
    let p = err_from_is_err_and c.from_residual.result c.from_residual.ensures.1 in
    let within = c.if-bytes-gt-MOST_FILE_BYTES.false in
    let low : length c.args.bytes.now ≤ MOST_FILE_BYTES = omega (arith, within) in
    rw (p.1, p.2) (conversion_error (any_scheme_of c.args.input) (any_scheme_of c.args.output) c.args.bytes.now c.in_err-text.field-0.0 low c.in_err-text.ensures.fault)
