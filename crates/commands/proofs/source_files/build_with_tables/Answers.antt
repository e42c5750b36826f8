-- The stem file is not read, or is refused, or the run goes on over what it holds.
use Rattle.std.proofs.Common.{List, ℕ, [], ◌∷◌, refl, subst}
use Rattle.list_laws.proofs.Sorted.{Contains-first, Contains-later}
use Rattle.morphology_definitions.specs.Inflection.{Class}
use Rattle.command_words.specs.Meant.{word_meant}
use Rattle.lexicon_builder.proofs.SourcesRead.{sources_read}
use Rattle.run_definitions.specs.Ends as ends
use Rattle.run_definitions.specs.BuildOutcomes.{AreStems, IsStemsOutcome, IsLexiconOutcome}
use Rattle.commands.specs.declared.status.Status.TheVariants.{BadFile}
use Rattle.commands.specs.declared.any_error.AnyError.TheVariants.{Fault}
use Rattle.commands.specs.SourceErrors.{IsSourceError}
use Rattle.commands.specs.Sources.{HoldsSource}
use Rattle.commands.proofs.Runs.{unread, refused, goes_on, same_devices}
use Rattle.commands.proofs.BuildRuns.{stems_missing, stems_refused, stems_held, not_usage}
use Rattle.commands.proofs.source_files.build_with_tables.Goals as goal

pub returns-in-Err : goal.returns-in-Err
returns-in-Err g c =
    let stems = word_meant c.args.words.now.stems in
    let out = word_meant c.args.words.now.out in
    let set = c.args.read.file.value.rules in
    let classes = c.args.read.tables.value in
    unread (IsStemsOutcome set classes stems out) _ _ _ _ _ stems (Contains-first stems ([])) (stems_missing set classes stems out)
    (record { files = c.read_file.ensures.files; failed_writes = c.read_file.ensures.writes; written = refl }) c.in-Err.ensures.unread

pub build_with_stems-requires-clause-sources : goal.build_with_stems-requires-clause-sources
build_with_stems-requires-clause-sources g c κs within =
    let (rule_bytes, rules) = c.requires.rules in
    let (table_bytes, tables) = c.requires.tables in
    sources_read rule_bytes table_bytes c.as_slice.result.now c.args.read.file.value.rules c.args.read.tables.value c.in-Ok-read_stem_file.stems.value rules tables
    (subst (λ (classes : List Class). HoldsSource (AreStems classes) c.as_slice.result.now c.in-Ok-read_stem_file.stems.value) c.deref.ensures
    c.in-Ok-read_stem_file.ensures.ok).read

pub returns-in-Ok-read_stem_file : goal.returns-in-Ok-read_stem_file
returns-in-Ok-read_stem_file g c =
    let stems = word_meant c.args.words.now.stems in
    let out = word_meant c.args.words.now.out in
    let set = c.args.read.file.value.rules in
    let classes = c.args.read.tables.value in
    let bytes = c.in-Ok.bytes.items in
    let held = c.in-Ok-read_stem_file.stems.value in
    goes_on (IsLexiconOutcome set classes held stems out) (IsStemsOutcome set classes stems out) ([]) (stems ∷ []) _ _ _ _
    (stems_held set classes stems out _ bytes held c.in-Ok.ensures.ok (subst (λ (b : List ℕ). HoldsSource (AreStems classes) b held) c.as_slice.ensures.value
    (subst (λ (list : List Class). HoldsSource (AreStems list) c.as_slice.result.now held) c.deref.ensures c.in-Ok-read_stem_file.ensures.ok)))
    (λ word m. Contains-later stems ([]) word m) _ (same_devices _ _ _ _ _ _ _ _ c.read_file.ensures.files c.in-Ok.ensures.reads c.read_file.ensures.writes) c.build_with_stems.ensures

pub returns-in-Err-Fault : goal.returns-in-Err-Fault
returns-in-Err-Fault g c =
    let stems = word_meant c.args.words.now.stems in
    let out = word_meant c.args.words.now.out in
    let set = c.args.read.file.value.rules in
    let classes = c.args.read.tables.value in
    let bytes = c.in-Ok.bytes.items in
    let fault = c.in-Err-Fault.fault in
    refused (IsStemsOutcome set classes stems out) _ _ _ _ _ (BadFile stems.place fault) _ (not_usage stems.place fault)
    c.read_file.ensures.files c.read_file.ensures.writes
    (stems_refused set classes stems out _ bytes fault c.in-Ok.ensures.ok (subst (λ (b : List ℕ). IsSourceError (AreStems classes) ends.Stems b (Fault fault)) c.as_slice.ensures.value
    (subst (λ (list : List Class). IsSourceError (AreStems list) ends.Stems c.as_slice.result.now (Fault fault)) c.deref.ensures
    (subst (IsSourceError (AreStems c.deref.result.now) ends.Stems c.as_slice.result.now) c.in-Err-Fault.field-0-is c.in-Err-Fault.ensures.refused))))
    c.refuse_file.ensures
