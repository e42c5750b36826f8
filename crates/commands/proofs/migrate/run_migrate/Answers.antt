-- It goes on to write the lexicon, or ends without one.
use Rattle.std.proofs.Common.{[]}
use Rattle.std.specs.Prelude.{Some}
use Rattle.list_laws.proofs.Sorted.{Contains-later}
use Rattle.form_file.specs.Contents.{lexicon_of}
use Rattle.command_words.specs.Meant.{word_meant}
use Rattle.run_definitions.specs.MigrateOutcomes.{IsMigratedOutcome, IsMigrateOutcome}
use Rattle.commands.specs.Openings.{IsUnopened}
use Rattle.commands.proofs.Runs.{embedded, goes_on}
use Rattle.commands.proofs.OpenedFiles.{contents_lent}
use Rattle.commands.proofs.MigrateRuns.{migrate_unopened, migrate_goes_on}
use Rattle.commands.proofs.migrate.run_migrate.Goals as goal

pub returns-in-Ok : goal.returns-in-Ok
returns-in-Ok g c =
    let lex = word_meant c.args.words.now.lex in
    let out = word_meant c.args.words.now.out in
    let lexicon = lexicon_of c.deref.result.now in
    let opened = contents_lent lex c.in-Ok.contents.value c.deref.result.now _ _ c.deref.ensures c.in-Ok.ensures.opened in
    goes_on (IsMigratedOutcome lexicon lex out) (IsMigrateOutcome lex out) [] _ _ _ _ _ (migrate_goes_on lex out lexicon _ opened.holds)
    (λ word m. Contains-later lex [] word m) _ opened.same c.migrate_contents.ensures

pub returns-in-Err : goal.returns-in-Err
returns-in-Err g c =
    let lex = word_meant c.args.words.now.lex in
    let out = word_meant c.args.words.now.out in
    embedded (IsUnopened lex) (IsMigrateOutcome lex out) _ _ _ _ _ _ (λ told e outcome is. migrate_unopened lex out told outcome is) (λ word m. m)
    (c.in-Err.ensures.ended (Some out))
