-- The file is not read, or is refused, or what was read of it is what it tells.
use Rattle.std.proofs.Common.{List, ℕ, [], refl, subst}
use Rattle.std.proofs.lemmas.Result.{err_from_is_err_and}
use Rattle.list_laws.proofs.Sorted.{Contains-first}
use Rattle.form_file.specs.Contents.{lexicon_of}
use Rattle.command_words.specs.Meant.{word_meant}
use Rattle.commands.specs.declared.status.Status.TheVariants.{BadFile}
use Rattle.commands.specs.LexiconFiles.{IsLexiconFile, IsRefusedFile, IsFileError}
use Rattle.commands.specs.Openings.{IsUnopened}
use Rattle.commands.proofs.Runs.{unread, refused, same_devices}
use Rattle.commands.proofs.BuildRuns.{not_usage}
use Rattle.commands.proofs.OpenedFiles.{told_lexicon, told_fault, unopened_missing}
use Rattle.commands.proofs.opening.open_contents.Goals as goal

pub returns-in_err-bytes-clause-ended : goal.returns-in_err-bytes-clause-ended
returns-in_err-bytes-clause-ended g c =
    let lex = word_meant c.args.word.now in
    let p = err_from_is_err_and c.from_residual.result c.from_residual.ensures.1 in
    rw (p.1, p.2) (λ writes. unread (IsUnopened lex) _ writes _ _ _ lex (Contains-first lex []) (unopened_missing lex)
    (record { files = c.read_file.ensures.files; failed_writes = c.read_file.ensures.writes; written = refl }) c.in_err-bytes.ensures.unread)

pub returns-in-Ok-clause-opened : goal.returns-in-Ok-clause-opened
returns-in-Ok-clause-opened g c =
    let lex = word_meant c.args.word.now in
    let bytes = c.in_ok-bytes.bytes.items in
    let lexicon = lexicon_of c.in-Ok.contents.value in
    let is : IsLexiconFile bytes lexicon = subst (λ (b : List ℕ). IsLexiconFile b lexicon) c.as_slice.ensures.value
    (record { within = c.in-Ok.ensures.within; read = c.in-Ok.ensures.ok }) in
    record {
      holds = told_lexicon lex bytes _ c.in_ok-bytes.ensures.ok lexicon is;
      same = same_devices _ _ _ _ _ _ _ _ c.read_file.ensures.files c.in_ok-bytes.ensures.reads c.read_file.ensures.writes;
    }

pub returns-in-Err-Fault-clause-ended : goal.returns-in-Err-Fault-clause-ended
returns-in-Err-Fault-clause-ended g c writes =
    let lex = word_meant c.args.word.now in
    let bytes = c.in_ok-bytes.bytes.items in
    let fault = c.in-Err-Fault.fault in
    let why = subst (λ (b : List ℕ). IsRefusedFile b fault) c.as_slice.ensures.value
    (subst (IsFileError c.as_slice.result.now) c.in-Err-Fault.field-0-is c.in-Err-Fault.ensures.refused) in
    refused (IsUnopened lex) _ writes _ _ _ (BadFile lex.place fault) _ (not_usage lex.place fault) c.read_file.ensures.files c.read_file.ensures.writes
    (told_fault lex bytes _ c.in_ok-bytes.ensures.ok fault why) c.refuse_file.ensures
