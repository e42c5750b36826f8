-- The note is written, or the first two of several answers are told.
use Rattle.std.proofs.Common.{refl}
use Rattle.std.specs.Prelude.{Some}
use Rattle.command_words.specs.Meant.{word_meant}
use Rattle.run_definitions.specs.AnnotateOutcomes.{IsNotedOutcome}
use Rattle.commands.specs.Annotations.{TellsSeveral}
use Rattle.commands.proofs.Runs.{printed}
use Rattle.commands.proofs.AnnotateRuns.{several_noted, several_not_usage}
use Rattle.commands.proofs.annotate.annotate_line.Goals as goal

pub returns-in-Ok : goal.returns-in-Ok
returns-in-Ok g c =
    c.write_noted.ensures c.args.lexicon.now.lexicon c.args.marked.now.line c.args.marked.now.choices c.in-Ok.ensures.written

pub returns-in-Err-Several : goal.returns-in-Err-Several
returns-in-Err-Several g c =
    let lexicon = c.args.lexicon.now.lexicon in
    let line = c.args.marked.now.line in
    let choices = c.args.marked.now.choices in
    let out = word_meant c.args.word.now in
    printed (IsNotedOutcome lexicon line choices out) _ (Some out) _ _ _ (TellsSeveral lexicon line choices) (several_not_usage lexicon line choices)
    (λ told e status output tells. several_noted lexicon line choices out status output tells told) refl refl c.tell_several.ensures
