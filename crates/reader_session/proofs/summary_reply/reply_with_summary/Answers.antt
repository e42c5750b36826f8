-- The refusal, by its lemma.
use Rattle.reader_session.proofs.RefusedPages.{no_line_for_summary}
use Rattle.std.proofs.Common.{arith}
use Rattle.std.proofs.lemmas.Grind.{common_steps}
use Rattle.reader_session.proofs.summary_reply.reply_with_summary.Goals as goal

pub returns-in_default : goal.returns-in_default
returns-in_default c = record {
  ok = no_line_for_summary c.args.lexicon.now c.args.old c.args.output.now.items c.refuse.new.output.items c.refuse.result c.in_default.is
      c.refuse.ensures.output c.refuse.ensures.same;
}

pub returns : goal.returns
returns c = grind (arith, common_steps)
