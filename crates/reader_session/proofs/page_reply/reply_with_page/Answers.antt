-- The two refusals, each by its lemma.
use Rattle.reader_session.proofs.RefusedPages.{no_line_for_page, no_number_for_page}
use Rattle.std.proofs.Common.{arith}
use Rattle.std.proofs.lemmas.Grind.{common_steps}
use Rattle.reader_session.proofs.page_reply.reply_with_page.Goals as goal

pub returns-in_default : goal.returns-in_default
returns-in_default c = record {
  ok = no_number_for_page c.args.lexicon.now c.args.old c.args.output.now.items c.refuse.new.output.items c.refuse.result c.args.count c.in_default.is
      c.requires.reading c.refuse.ensures.output c.refuse.ensures.same;
}

pub returns-in_default-old : goal.returns-in_default-old
returns-in_default-old c = record {
  ok = no_line_for_page c.args.lexicon.now c.args.old c.args.output.now.items c.refuse-in_default-old.new.output.items c.refuse-in_default-old.result
      c.args.count c.in-Some.count c.in-Some.is c.in_default-old.is c.refuse-in_default-old.ensures.output c.refuse-in_default-old.ensures.same;
}

pub returns : goal.returns
returns c = grind (arith, common_steps)
