-- The text is written, or the file is refused since the text would be too long.
use Rattle.std.proofs.Common.{refl, subst}
use Rattle.std.specs.Prelude.{Option, MatchOption}
use Rattle.form_file.specs.Contents.{lexicon_of}
use Rattle.command_words.specs.Meant.{word_meant}
use Rattle.run_definitions.specs.LongTexts.{HasLongText}
use Rattle.run_definitions.specs.MigrateOutcomes.{IsMigratedOutcome}
use Rattle.commands.specs.declared.status.Status.TheVariants.{BadFile}
use Rattle.commands.specs.declared.migrate.Migrated.{Migrated}
use Rattle.commands.specs.Migrations.{IsMigrated}
use Rattle.commands.proofs.Runs.{refused}
use Rattle.commands.proofs.BuildRuns.{not_usage}
use Rattle.commands.proofs.MigrateRuns.{text_refused}
use Rattle.commands.proofs.migrate.migrate_contents.Goals as goal

pub returns-in-Ok-Some : goal.returns-in-Ok-Some
returns-in-Ok-Some g c =
    let lexicon = lexicon_of c.args.contents.now in
    c.write_migrated.ensures lexicon
    (subst (λ (written : Option Migrated). MatchOption written (HasLongText lexicon) (IsMigrated lexicon)) c.in-Ok-Some.field-0-is c.in-Ok-Some.ensures.ok)

pub returns-in-Ok-None : goal.returns-in-Ok-None
returns-in-Ok-None g c =
    let lexicon = lexicon_of c.args.contents.now in
    let lex = word_meant c.args.words.now.lex in
    let out = word_meant c.args.words.now.out in
    let fault = c.long_text.result in
    refused (IsMigratedOutcome lexicon lex out) _ _ _ _ _ (BadFile lex.place fault) _ (not_usage lex.place fault) refl refl
    (λ told e. text_refused lexicon lex out fault c.long_text.ensures
    (subst (λ (written : Option Migrated). MatchOption written (HasLongText lexicon) (IsMigrated lexicon)) c.in-Ok-None.field-0-is c.in-Ok-None.ensures.ok) told)
    c.refuse_file.ensures
