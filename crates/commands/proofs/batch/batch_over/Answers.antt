-- The text file is not read, or is too large, or the lines of its bytes are replied to.
use Rattle.std.proofs.Common.{◌<◌, ◌≤◌, [], length, refl, arith}
use Rattle.std.specs.Prelude.{None}
use Rattle.lexicon_text_definitions.specs.declared.limits.TheConstants.{MOST_FILE_BYTES}
use Rattle.list_laws.proofs.Sorted.{Contains-first}
use Rattle.text_line.specs.Values.{scheme_of}
use Rattle.command_words.specs.Meant.{word_meant}
use Rattle.run_definitions.specs.BatchOutcomes.{IsTextOutcome}
use Rattle.commands.specs.declared.status.Status.TheVariants.{BadFile}
use Rattle.commands.specs.declared.status.AnyFault.TheVariants.{Large}
use Rattle.commands.specs.Batches.{NoText, OnText}
use Rattle.commands.proofs.Runs.{unread, refused}
use Rattle.commands.proofs.BuildRuns.{not_usage}
use Rattle.commands.proofs.BatchRuns.{text_missing, told_text, large_text}
use Rattle.commands.proofs.batch.batch_over.Goals as goal

pub returns-in-Err : goal.returns-in-Err
returns-in-Err g c =
    let lexicon = c.args.batch.now.lexicon.now.lexicon in
    let scheme = scheme_of c.args.batch.now.scheme in
    let file = word_meant c.args.file.now in
    let count = c.args.batch.now.count in
    NoText (unread (IsTextOutcome lexicon scheme file count) _ None _ _ _ file (Contains-first file []) (text_missing lexicon scheme file count)
    (record { files = c.read_file.ensures.files; failed_writes = c.read_file.ensures.writes; written = refl }) c.in-Err.ensures.unread)

pub returns-then-len-gt-MOST_FILE_BYTES : goal.returns-then-len-gt-MOST_FILE_BYTES
returns-then-len-gt-MOST_FILE_BYTES g c =
    let lexicon = c.args.batch.now.lexicon.now.lexicon in
    let scheme = scheme_of c.args.batch.now.scheme in
    let file = word_meant c.args.file.now in
    let count = c.args.batch.now.count in
    let bytes = c.in-Ok.bytes.items in
    let high : MOST_FILE_BYTES < length bytes = omega (arith, c.if-len-gt-MOST_FILE_BYTES.true, c.len.ensures, c.in-Ok.bytes.ok) in
    NoText (refused (IsTextOutcome lexicon scheme file count) _ None _ _ _ (BadFile file.place Large) _ (not_usage file.place Large)
    c.read_file.ensures.files c.read_file.ensures.writes (large_text file bytes _ c.in-Ok.ensures.ok lexicon scheme count high) c.refuse_file.ensures)

pub returns : goal.returns
returns g c =
    let file = word_meant c.args.file.now in
    let bytes = c.in-Ok.bytes.items in
    let small : length bytes ≤ MOST_FILE_BYTES = omega (arith, c.if-len-gt-MOST_FILE_BYTES.false, c.len.ensures, c.in-Ok.bytes.ok) in
    OnText (record {
      text = bytes;
      tells = told_text file bytes _ c.in-Ok.ensures.ok small;
      files = c.read_file.ensures.files;
      failed_writes = c.read_file.ensures.writes;
      replied = rw c.as_slice.ensures.value at c.reply_to_lines.ensures;
    })
