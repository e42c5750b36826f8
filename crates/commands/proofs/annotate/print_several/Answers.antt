-- The answers that were listed from before the first are the first two.
use Rattle.commands.proofs.AnnotateRuns.{several_printed}
use Rattle.commands.proofs.annotate.print_several.Goals as goal

pub returns : goal.returns
returns c = record {
  ok = several_printed c.args.lexicon.now c.args.marked.now.line c.args.marked.now.choices _ _ _ _ _ _ _ c.in_ok-search.ensures.ok
      c.in_ok-output.ensures.items c.in_ok-push_answers.ensures.ok;
}
