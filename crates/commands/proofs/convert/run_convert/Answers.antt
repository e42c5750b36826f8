-- The text file is not read, or is refused, or what was made of it is written.
use Rattle.std.proofs.Common.{List, ℕ, [], ◌∷◌, refl, subst}
use Rattle.list_laws.proofs.Sorted.{Contains-first, Contains-later}
use Rattle.command_words.specs.Meant.{word_meant}
use Rattle.more_schemes.specs.Values.{any_scheme_of}
use Rattle.run_definitions.specs.Ends as ends
use Rattle.run_definitions.specs.ConvertOutcomes.{Conversion, IsConversion, IsConvertedOutcome, IsConvertOutcome}
use Rattle.commands.specs.declared.status.Status.TheVariants.{BadFile}
use Rattle.commands.specs.declared.any_error.AnyError.TheVariants.{Fault}
use Rattle.commands.specs.SourceErrors.{IsSourceError}
use Rattle.commands.specs.Conversions.{IsConvertedFile}
use Rattle.commands.proofs.Runs.{unread, refused, goes_on, same_devices}
use Rattle.commands.proofs.BuildRuns.{not_usage}
use Rattle.commands.proofs.ConvertRuns.{text_missing, text_refused, text_held}
use Rattle.commands.proofs.convert.run_convert.Goals as goal

pub returns-in-Err : goal.returns-in-Err
returns-in-Err g c =
    let from = any_scheme_of c.args.words.now.input in
    let to = any_scheme_of c.args.words.now.output in
    let file = word_meant c.args.words.now.file in
    let out = word_meant c.args.words.now.out in
    unread (IsConvertOutcome from to file out) _ _ _ _ _ file (Contains-first file []) (text_missing from to file out)
    (record { files = c.read_file.ensures.files; failed_writes = c.read_file.ensures.writes; written = refl }) c.in-Err.ensures.unread

pub returns-in-Ok-convert_file : goal.returns-in-Ok-convert_file
returns-in-Ok-convert_file g c =
    let from = any_scheme_of c.args.words.now.input in
    let to = any_scheme_of c.args.words.now.output in
    let file = word_meant c.args.words.now.file in
    let out = word_meant c.args.words.now.out in
    let bytes = c.in-Ok.bytes.items in
    let converted = c.in-Ok-convert_file.converted in
    let is = subst (λ (b : List ℕ). IsConvertedFile from to b converted) c.as_slice.ensures.value c.in-Ok-convert_file.ensures.ok in
    let conversion : Conversion = record { bytes = converted.text.items; lines = is.lines } in
    goes_on (IsConvertedOutcome conversion out) (IsConvertOutcome from to file out) [] (file ∷ []) _ _ _ _
    (text_held from to file out _ bytes conversion c.in-Ok.ensures.ok is.held) (λ word m. Contains-later file [] word m) _
    (same_devices _ _ _ _ _ _ _ _ c.read_file.ensures.files c.in-Ok.ensures.reads c.read_file.ensures.writes) (c.write_converted.ensures is.lines is.output)

pub returns-in-Err-Fault : goal.returns-in-Err-Fault
returns-in-Err-Fault g c =
    let from = any_scheme_of c.args.words.now.input in
    let to = any_scheme_of c.args.words.now.output in
    let file = word_meant c.args.words.now.file in
    let out = word_meant c.args.words.now.out in
    let bytes = c.in-Ok.bytes.items in
    let fault = c.in-Err-Fault.fault in
    refused (IsConvertOutcome from to file out) _ _ _ _ _ (BadFile file.place fault) _ (not_usage file.place fault)
    c.read_file.ensures.files c.read_file.ensures.writes
    (text_refused from to file out _ bytes fault c.in-Ok.ensures.ok (subst (λ (b : List ℕ). IsSourceError (IsConversion from to) ends.Spelling b (Fault fault)) c.as_slice.ensures.value (subst (IsSourceError (IsConversion from to) ends.Spelling c.as_slice.result.now) c.in-Err-Fault.field-0-is c.in-Err-Fault.ensures.refused)))
    c.refuse_file.ensures
