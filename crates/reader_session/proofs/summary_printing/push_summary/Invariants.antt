-- What is printed and what is left to print are together the lines of the items.
use Rattle.std.proofs.Common.{◌≡◌, ◌+◌, ◌++◌, drop}
use Rattle.session_definitions.specs.PrintedSummaries.{printed_items}
use Rattle.reader_session.proofs.summary_printing.push_summary.Given as goal

abbrev pub invariant-loop-item : goal.invariant-loop-item
invariant-loop-item l = record {
  number : l.number ≡ l.item-index + 1;
  printed : l.output.items ++ printed_items l.rules l.number (drop l.item-index l.items) ≡ l.fn.output.items ++ printed_items l.rules 1 l.items;
}
