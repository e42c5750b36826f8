-- The table file is not read, or is refused, or the run goes on over what it holds.
use Rattle.std.proofs.Common.{List, ℕ, [], ◌∷◌, refl, ap, subst, ◌∙◌, map, length, string_bytes, arith}
use Rattle.std.proofs.lemmas.List.{length-map}
use Rattle.list_laws.proofs.Sorted.{Contains-first, Contains-later}
use Rattle.command_words.specs.Meant.{word_meant}
use Rattle.rule_file.specs.declared.contents.RuleFile.{RuleFile}
use Rattle.rule_file_definitions.proofs.SoundSets.{read_sound}
use Rattle.run_definitions.specs.Ends as ends
use Rattle.run_definitions.specs.BuildOutcomes.{AreTables, IsTablesOutcome, IsStemsOutcome}
use Rattle.commands.specs.declared.status.Status.TheVariants.{BadFile}
use Rattle.commands.specs.declared.any_error.AnyError.TheVariants.{Fault}
use Rattle.commands.specs.SourceErrors.{IsSourceError}
use Rattle.commands.specs.Sources.{HoldsSource}
use Rattle.commands.proofs.Runs.{unread, refused, goes_on, same_devices}
use Rattle.commands.proofs.BuildRuns.{tables_missing, tables_refused, tables_held, not_usage}
use Rattle.commands.proofs.source_files.build_with_rules.Goals as goal

pub returns-in-Err : goal.returns-in-Err
returns-in-Err g c =
    let tables = word_meant c.args.words.now.tables in
    let stems = word_meant c.args.words.now.stems in
    let out = word_meant c.args.words.now.out in
    let set = c.args.file.value.rules in
    unread (IsTablesOutcome set tables stems out) _ _ _ _ _ tables (Contains-first tables (stems ∷ [])) (tables_missing set tables stems out)
    (record { files = c.read_file.ensures.files; failed_writes = c.read_file.ensures.writes; written = refl }) c.in-Err.ensures.unread

pub read_table_file-requires : goal.read_table_file-requires
read_table_file-requires g c =
    let within = (read_sound c.requires.0 c.args.file.value.rules c.requires.1).limits.phases in
    let names = c.phases.ensures ∙ ap (λ (f : RuleFile). f.rules.names) c.deref.ensures in
    omega (arith, within, length-map c.phases.result.now string_bytes, ap length names)

pub returns-in-Ok-read_table_file : goal.returns-in-Ok-read_table_file
returns-in-Ok-read_table_file g c =
    let tables = word_meant c.args.words.now.tables in
    let stems = word_meant c.args.words.now.stems in
    let out = word_meant c.args.words.now.out in
    let set = c.args.file.value.rules in
    let bytes = c.in-Ok.bytes.items in
    let classes = c.in-Ok-read_table_file.tables.value in
    let names = c.phases.ensures ∙ ap (λ (f : RuleFile). f.rules.names) c.deref.ensures in
    goes_on (IsStemsOutcome set classes stems out) (IsTablesOutcome set tables stems out) (stems ∷ []) (tables ∷ stems ∷ []) _ _ _ _
    (tables_held set tables stems out _ bytes classes c.in-Ok.ensures.ok (subst (λ (b : List ℕ). HoldsSource (AreTables set.names) b classes) c.as_slice.ensures.value
    (subst (λ (list : List (List ℕ)). HoldsSource (AreTables list) c.as_slice.result.now classes) names c.in-Ok-read_table_file.ensures.ok)))
    (λ word m. Contains-later tables (stems ∷ []) word m) _ (same_devices _ _ _ _ _ _ _ _ c.read_file.ensures.files c.in-Ok.ensures.reads c.read_file.ensures.writes) c.build_with_tables.ensures

pub returns-in-Err-Fault : goal.returns-in-Err-Fault
returns-in-Err-Fault g c =
    let tables = word_meant c.args.words.now.tables in
    let stems = word_meant c.args.words.now.stems in
    let out = word_meant c.args.words.now.out in
    let set = c.args.file.value.rules in
    let bytes = c.in-Ok.bytes.items in
    let fault = c.in-Err-Fault.fault in
    let names = c.phases.ensures ∙ ap (λ (f : RuleFile). f.rules.names) c.deref.ensures in
    refused (IsTablesOutcome set tables stems out) _ _ _ _ _ (BadFile tables.place fault) _ (not_usage tables.place fault)
    c.read_file.ensures.files c.read_file.ensures.writes
    (tables_refused set tables stems out _ bytes fault c.in-Ok.ensures.ok (subst (λ (b : List ℕ). IsSourceError (AreTables set.names) ends.Tables b (Fault fault)) c.as_slice.ensures.value
    (subst (λ (list : List (List ℕ)). IsSourceError (AreTables list) ends.Tables c.as_slice.result.now (Fault fault)) names
    (subst (IsSourceError (AreTables (map string_bytes c.phases.result.now)) ends.Tables c.as_slice.result.now) c.in-Err-Fault.field-0-is c.in-Err-Fault.ensures.refused))))
    c.refuse_file.ensures
