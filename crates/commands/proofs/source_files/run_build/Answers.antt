-- The rule file is not read, or is refused, or the run goes on over what it holds.
use Rattle.std.proofs.Common.{List, ℕ, [], ◌∷◌, refl, subst}
use Rattle.list_laws.proofs.Sorted.{Contains-first, Contains-later}
use Rattle.command_words.specs.Meant.{word_meant}
use Rattle.run_definitions.specs.Ends as ends
use Rattle.rule_file_definitions.specs.RuleFileReadings.{IsReadAs}
use Rattle.run_definitions.specs.BuildOutcomes.{IsBuildOutcome, IsTablesOutcome}
use Rattle.commands.specs.declared.status.Status.TheVariants.{BadFile}
use Rattle.commands.specs.declared.any_error.AnyError.TheVariants.{Fault}
use Rattle.commands.specs.SourceErrors.{IsSourceError}
use Rattle.commands.specs.Sources.{HoldsSource}
use Rattle.commands.proofs.Runs.{unread, refused, goes_on, same_devices}
use Rattle.commands.proofs.BuildRuns.{rules_missing, rules_refused, rules_held, not_usage}
use Rattle.commands.proofs.source_files.run_build.Goals as goal

pub returns-in-Err : goal.returns-in-Err
returns-in-Err g c =
    let rules = word_meant c.args.words.now.rules in
    let tables = word_meant c.args.words.now.tables in
    let stems = word_meant c.args.words.now.stems in
    let out = word_meant c.args.words.now.out in
    unread (IsBuildOutcome rules tables stems out) _ _ _ _ _ rules (Contains-first rules (tables ∷ stems ∷ [])) (rules_missing rules tables stems out)
    (record { files = c.read_file.ensures.files; failed_writes = c.read_file.ensures.writes; written = refl }) c.in-Err.ensures.unread

pub returns-in-Ok-read_rule_file : goal.returns-in-Ok-read_rule_file
returns-in-Ok-read_rule_file g c =
    let rules = word_meant c.args.words.now.rules in
    let tables = word_meant c.args.words.now.tables in
    let stems = word_meant c.args.words.now.stems in
    let out = word_meant c.args.words.now.out in
    let bytes = c.in-Ok.bytes.items in
    let set = c.in-Ok-read_rule_file.file.value.rules in
    goes_on (IsTablesOutcome set tables stems out) (IsBuildOutcome rules tables stems out) (tables ∷ stems ∷ []) (rules ∷ tables ∷ stems ∷ []) _ _ _ _
    (rules_held rules tables stems out _ bytes set c.in-Ok.ensures.ok (subst (λ (b : List ℕ). HoldsSource (IsReadAs) b set) c.as_slice.ensures.value c.in-Ok-read_rule_file.ensures.ok))
    (λ word m. Contains-later rules (tables ∷ stems ∷ []) word m) _ (same_devices _ _ _ _ _ _ _ _ c.read_file.ensures.files c.in-Ok.ensures.reads c.read_file.ensures.writes) c.build_with_rules.ensures

pub returns-in-Err-Fault : goal.returns-in-Err-Fault
returns-in-Err-Fault g c =
    let rules = word_meant c.args.words.now.rules in
    let tables = word_meant c.args.words.now.tables in
    let stems = word_meant c.args.words.now.stems in
    let out = word_meant c.args.words.now.out in
    let bytes = c.in-Ok.bytes.items in
    let fault = c.in-Err-Fault.fault in
    refused (IsBuildOutcome rules tables stems out) _ _ _ _ _ (BadFile rules.place fault) _ (not_usage rules.place fault)
    c.read_file.ensures.files c.read_file.ensures.writes
    (rules_refused rules tables stems out _ bytes fault c.in-Ok.ensures.ok (subst (λ (b : List ℕ). IsSourceError (IsReadAs) ends.Rules b (Fault fault)) c.as_slice.ensures.value (subst (IsSourceError (IsReadAs) ends.Rules c.as_slice.result.now) c.in-Err-Fault.field-0-is c.in-Err-Fault.ensures.refused)))
    c.refuse_file.ensures
