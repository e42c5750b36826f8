-- Each answer is printed as the search comes to it, and its steps are kept.
use Rattle.std.proofs.Common.{subst, refl, ◌∙◌}
use Rattle.answer_printing.specs.Turns.{HasTurned}
use Rattle.answer_printing.proofs.ListedAnswers.{keeping_at_first, keeping_next}
use Rattle.answer_printing.proofs.page_printing.push_answers.Goals as goal

pub loop-printed-init : goal.loop-printed-init
loop-printed-init g c = record {
  keeping = keeping_at_first c.args.search.now c.args.asked.number c.args.output.now.items c.args.last.now.items c.requires.number;
  printer = refl;
}

pub loop-printed-preserved : goal.loop-printed-preserved
loop-printed-preserved g c =
    let turn = subst (HasTurned c.loop-printed.search c.push_next.new.search c.loop-printed.next c.loop-printed.output.items c.push_next.new.output.items)
    c.if-not-branch.false c.in_ok-push_next.ensures.ok in
    record {
      keeping = keeping_next c.args.search.now c.loop-printed.search c.push_next.new.search c.args.asked.number c.loop-printed.printed c.args.output.now.items
          c.loop-printed.output.items c.push_next.new.output.items c.loop-printed.next c.number_of_next-next.result c.args.last.now.items
          c.loop-printed.last.items c.keep_current.new.last.items c.loop-printed.invariant.keeping turn c.in_ok-keep_current.ensures.ok
          c.number_of_next-next.ensures;
      printer = c.push_next.ensures.unchanged ∙ c.loop-printed.invariant.printer;
    }
