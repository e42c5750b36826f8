-- The choices of the bookmark are over the lexicon, and the outcome for its line and choices is that for the bookmark.
use Rattle.std.proofs.Common.{[], subst}
use Rattle.std.specs.Prelude.{Some, Option}
use Rattle.command_words.specs.Meant.{word_meant}
use Rattle.reader_session.specs.declared.marks.MarkedLine.{MarkedLine}
use Rattle.reader_session.specs.Marks.{IsMarked, IsMarkRead}
use Rattle.run_definitions.specs.AnnotateOutcomes.{IsNotedOutcome, IsMarkOutcome}
use Rattle.commands.proofs.Runs.{embedded}
use Rattle.commands.proofs.AnnotateRuns.{choices_over, of_mark}
use Rattle.commands.proofs.annotate.annotate_over.Goals as goal

pub annotate_line-requires : goal.annotate_line-requires
annotate_line-requires g c =
    let lexicon = c.args.lexicon.now.lexicon in
    let text = c.as_bytes.result.now in
    choices_over lexicon text c.in-Ok-Some.marked
    (subst (λ (read : Option MarkedLine). IsMarkRead lexicon text read) c.in-Ok-Some.field-0-is c.in-Ok-Some.ensures.mark)

pub returns-in-Ok-Some : goal.returns-in-Ok-Some
returns-in-Ok-Some g c =
    let lexicon = c.args.lexicon.now.lexicon in
    let text = c.args.words.now.mark.name.now in
    let out = word_meant c.args.words.now.out in
    let marked = c.in-Ok-Some.marked in
    let read : IsMarkRead lexicon text c.in-Ok-Some.field-0 = rw c.as_bytes.ensures.value at c.in-Ok-Some.ensures.mark in
    let is : IsMarked lexicon text marked =
    subst (λ (found : Option MarkedLine). IsMarkRead lexicon text found) c.in-Ok-Some.field-0-is read in
    embedded (IsNotedOutcome lexicon marked.line marked.choices out) (IsMarkOutcome lexicon text out) [] [] (Some out) _ _ _
    (λ files f outcome noted. of_mark lexicon text marked is out files outcome noted) (λ word m. m) c.annotate_line.ensures
