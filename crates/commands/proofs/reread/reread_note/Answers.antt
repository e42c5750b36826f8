-- A refusal of the note is why the file is refused.
use Rattle.std.proofs.Common.{◌≤◌, length, arith}
use Rattle.std.proofs.lemmas.Result.{err_from_is_err_and}
use Rattle.lexicon_text_definitions.specs.declared.limits.TheConstants.{MOST_FILE_BYTES}
use Rattle.commands.proofs.SourceFaults.{note_error}
use Rattle.commands.proofs.reread.reread_note.Goals as goal

pub returns-in_err-note-clause-refused : goal.returns-in_err-note-clause-refused
returns-in_err-note-clause-refused c =
    let p = err_from_is_err_and c.from_residual.result c.from_residual.ensures.1 in
    let within = c.if-bytes-gt-MOST_FILE_BYTES.false in
    let low : length c.args.bytes.now ≤ MOST_FILE_BYTES = omega (arith, within) in
    rw (p.1, p.2) (note_error c.args.lexicon.now.lexicon c.args.bytes.now c.in_err-note.field-0.0 low c.in_err-note.ensures.read)
