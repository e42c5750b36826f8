-- The lines so far are asked for.
use Rattle.std.proofs.Common.{take}
use Rattle.std.specs.List.{AllZip}
use Rattle.batch_reader.specs.Replies.{AsksForPage}
use Rattle.batch_reader.proofs.answering.ask_for_pages.Given as goal

abbrev pub invariant-loop-line : goal.invariant-loop-line
invariant-loop-line l = AllZip AsksForPage (take l.line-index l.lines) l.asked.items
