-- The line that is appended is that of the answer to which the search has moved.
use Rattle.answer_printing.proofs.ListedAnswers.{printed_next}
use Rattle.answer_printing.proofs.page_printing.push_next.Goals as goal

pub returns : goal.returns
returns g c = record {
  unchanged = c.push_current.ensures.unchanged;
  ok = printed_next c.args.search.now c.advance.new.self c.args.printer.now.rules c.args.number c.args.output.now.items c.push_current.new.output.items
      c.requires.rules c.if-not-advance.ensures.moved c.in_ok-push_current.ensures.ok;
}
