-- The overlaps of the lexicon are written, or the run ends without one.
use Rattle.std.proofs.Common.{refl}
use Rattle.std.specs.Prelude.{None}
use Rattle.form_file.specs.Contents.{lexicon_of}
use Rattle.command_words.specs.Meant.{word_meant}
use Rattle.run_definitions.specs.CheckOutcomes.{IsCheckOutcome}
use Rattle.commands.specs.Openings.{IsUnopened}
use Rattle.commands.specs.Checks.{WritesCheck}
use Rattle.commands.proofs.Runs.{embedded}
use Rattle.commands.proofs.OpenedFiles.{contents_lent, printed_over}
use Rattle.commands.proofs.CheckRuns.{check_outcome, check_unopened, check_not_usage}
use Rattle.commands.proofs.check.run_check.Goals as goal

pub returns-in-Ok : goal.returns-in-Ok
returns-in-Ok g c =
    let lex = word_meant c.args.lex.now in
    let opened = contents_lent lex c.in-Ok.contents.value c.deref.result.now _ _ c.deref.ensures c.in-Ok.ensures.opened in
    printed_over lex (lexicon_of c.deref.result.now) _ _ opened (IsCheckOutcome lex) WritesCheck (check_not_usage lex) (check_outcome lex)
    _ _ refl refl c.write_check.ensures

pub returns-in-Err : goal.returns-in-Err
returns-in-Err g c =
    let lex = word_meant c.args.lex.now in
    embedded (IsUnopened lex) (IsCheckOutcome lex) _ _ _ _ _ _ (λ told e outcome is. check_unopened lex told outcome is) (λ word m. m)
    (c.in-Err.ensures.ended None)
