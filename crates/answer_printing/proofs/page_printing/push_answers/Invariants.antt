-- So many answers are listed and printed, the search stands at the last of them, its steps are kept, and the printer prints with
-- what it did at first.
use Rattle.std.proofs.Common.{◌≡◌}
use Rattle.answer_printing.proofs.ListedAnswers.{IsKeeping}
use Rattle.answer_printing.proofs.page_printing.push_answers.Given as goal

abbrev pub invariant-loop-printed : goal.invariant-loop-printed
invariant-loop-printed g l = record {
  keeping : IsKeeping l.initial.search l.search l.fn.asked.number l.printed l.initial.output.items l.output.items l.next l.initial.last.items l.last.items;
  printer : l.printer ≡ l.initial.printer;
}
