-- Each answer is printed as the search comes to it; then it is known whether one is left.
use Rattle.std.proofs.Common.{subst, arith, refl, ◌∙◌}
use Rattle.answer_printing.specs.Turns.{HasTurned}
use Rattle.answer_printing.proofs.ListedAnswers.{under_way_at_first, under_way_next, page_at_end, page_at_last}
use Rattle.answer_printing.proofs.page_printing.push_page.Goals as goal

pub loop-init : goal.loop-init
loop-init g c = record {
  under = under_way_at_first c.args.search.now c.args.asked.number c.args.output.now.items c.requires.number;
  printer = refl;
}

pub loop-preserved : goal.loop-preserved
loop-preserved g c =
    let turn = subst (HasTurned c.loop.search c.push_next.new.search c.loop.next c.loop.output.items c.push_next.new.output.items)
    c.if-not-branch.false c.in_ok-push_next.ensures.ok in
    record {
      under = under_way_next c.args.search.now c.loop.search c.push_next.new.search c.args.asked.number c.loop.counter c.args.output.now.items
          c.loop.output.items c.push_next.new.output.items c.loop.next c.number_of_next-next.result c.loop.invariant.under turn
          c.number_of_next-next.ensures;
      printer = c.push_next.ensures.unchanged ∙ c.loop.invariant.printer;
    }

pub returns-then-not-branch : goal.returns-then-not-branch
returns-then-not-branch g c =
    let turn = subst (HasTurned c.loop.search c.push_next.new.search c.loop.next c.loop.output.items c.push_next.new.output.items)
    c.if-not-branch.true c.in_ok-push_next.ensures.ok in
    let fewer = c.loop-test.true in
    record {
      unchanged = c.push_next.ensures.unchanged ∙ c.loop.invariant.printer;
      ok = page_at_end c.args.search.now c.loop.search c.args.asked.number c.loop.counter c.args.output.now.items c.loop.output.items c.loop.next c.args.asked.count
          c.loop.invariant.under c.push_next.new.search c.push_next.new.output.items c.push_rest.new.output.items (omega (arith, fewer)) turn
          c.in_ok-push_rest.ensures.ok;
    }

pub returns : goal.returns
returns g c =
    let enough = c.loop-test.false in
    let within = c.loop.auto.counter-end in
    record {
      unchanged = c.loop.invariant.printer;
      ok = page_at_last c.args.search.now c.loop.search c.args.asked.number c.loop.counter c.args.output.now.items c.loop.output.items c.loop.next c.args.asked.count
          c.loop.invariant.under c.advance-more.new.self c.push_rest-2.new.output.items c.advance-more.result (omega (arith, enough, within))
          c.advance-more.ensures.moved c.advance-more.ensures.ended c.in_ok-push_rest-2.ensures.ok;
    }
