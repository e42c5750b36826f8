-- So many answers are listed and printed, the search stands at the last of them, and the printer prints with what it did at first.
use Rattle.std.proofs.Common.{◌≡◌}
use Rattle.answer_printing.proofs.ListedAnswers.{IsUnderWay}
use Rattle.answer_printing.proofs.page_printing.push_page.Given as goal

abbrev pub invariant-loop : goal.invariant-loop
invariant-loop g l = record {
  under : IsUnderWay l.initial.search l.search l.fn.asked.number l.counter l.initial.output.items l.output.items l.next;
  printer : l.printer ≡ l.initial.printer;
}
