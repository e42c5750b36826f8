-- It goes on with the bookmark over the lexicon, or ends without one.
use Rattle.std.proofs.Common.{[]}
use Rattle.std.specs.Prelude.{Some}
use Rattle.list_laws.proofs.Sorted.{Contains-later}
use Rattle.command_words.specs.Meant.{word_meant}
use Rattle.run_definitions.specs.AnnotateOutcomes.{IsMarkOutcome, IsAnnotateOutcome}
use Rattle.commands.specs.Openings.{IsUnopened}
use Rattle.commands.proofs.Runs.{embedded, goes_on}
use Rattle.commands.proofs.OpenedFiles.{lexicon_lent}
use Rattle.commands.proofs.AnnotateRuns.{annotate_unopened, annotate_goes_on}
use Rattle.commands.proofs.annotate.run_annotate.Goals as goal

pub returns-in-Ok : goal.returns-in-Ok
returns-in-Ok g c =
    let lex = word_meant c.args.words.now.lex in
    let mark = c.args.words.now.mark.name.now in
    let out = word_meant c.args.words.now.out in
    let lexicon = c.deref.result.now.lexicon in
    let opened = lexicon_lent lex c.in-Ok.lexicon.value c.deref.result.now _ _ c.deref.ensures c.in-Ok.ensures.opened in
    goes_on (IsMarkOutcome lexicon mark out) (IsAnnotateOutcome lex mark out) [] _ _ _ _ _ (annotate_goes_on lex mark out lexicon _ opened.holds)
    (λ word m. Contains-later lex [] word m) _ opened.same c.annotate_over.ensures

pub returns-in-Err : goal.returns-in-Err
returns-in-Err g c =
    let lex = word_meant c.args.words.now.lex in
    let mark = c.args.words.now.mark.name.now in
    let out = word_meant c.args.words.now.out in
    embedded (IsUnopened lex) (IsAnnotateOutcome lex mark out) _ _ _ _ _ _ (λ told e outcome is. annotate_unopened lex mark out told outcome is)
    (λ word m. m) (c.in-Err.ensures.ended (Some out))
