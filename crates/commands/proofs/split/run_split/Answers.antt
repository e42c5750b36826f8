-- The page of the text's line is written over the lexicon, or the run ends without one.
use Rattle.std.proofs.Common.{refl}
use Rattle.std.specs.Prelude.{None}
use Rattle.command_words.specs.Meant.{word_meant}
use Rattle.run_definitions.specs.SplitOutcomes.{IsSplitOutcome}
use Rattle.commands.specs.Openings.{IsUnopened}
use Rattle.commands.specs.Splits.{WritesSplit}
use Rattle.commands.proofs.Runs.{embedded}
use Rattle.commands.proofs.OpenedFiles.{lexicon_lent, printed_over}
use Rattle.commands.proofs.SplitRuns.{split_outcome, split_unopened, split_not_usage}
use Rattle.commands.proofs.split.run_split.Goals as goal

pub returns-in-Ok : goal.returns-in-Ok
returns-in-Ok g c =
    let lex = word_meant c.args.words.now.lex in
    let text = c.args.words.now.text.name.now in
    let count = c.args.words.now.count in
    let opened = lexicon_lent lex c.in-Ok.lexicon.value c.deref.result.now _ _ c.deref.ensures c.in-Ok.ensures.opened in
    printed_over lex c.deref.result.now.lexicon _ _ opened (IsSplitOutcome lex text count) (WritesSplit text count)
    (split_not_usage lex text count) (split_outcome lex text count) _ _ refl refl c.write_split.ensures

pub returns-in-Err : goal.returns-in-Err
returns-in-Err g c =
    let lex = word_meant c.args.words.now.lex in
    let text = c.args.words.now.text.name.now in
    let count = c.args.words.now.count in
    embedded (IsUnopened lex) (IsSplitOutcome lex text count) _ _ _ _ _ _ (λ told e outcome is. split_unopened lex text count told outcome is)
    (λ word m. m) (c.in-Err.ensures.ended None)
