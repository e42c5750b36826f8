-- One choice more: such a step is allowed by all so far where it is by those before and by this one (`FreeSteps`).
use Rattle.std.proofs.Common.{rules, ◌↔◌, ◌∙◌, IsTrue, sym}
use Rattle.reader_choices.proofs.FreeSteps.{one_more, so_far_all}
use Rattle.reader_choices.proofs.freedom.leave_free.Goals.{then-may_end, else-may_end}
use Rattle.reader_choices.proofs.freedom.leave_free.Goals as goal

pub loop-choice-preserved : goal.loop-choice-preserved
loop-choice-preserved c =
    let before = c.loop-choice.may_end in
    let one = c.in_ok-may_end_by_it.may_end_by_it in
    let both : IsTrue c.if-may_end.may_end ↔ (IsTrue before × IsTrue one) = elim c.if-may_end.branch [
      | then-may_end w ↦ (λ t. (w.if-may_end.true, sym w.may_end-is ∙ t), λ both. w.may_end-is ∙ both.1)
      | else-may_end w ↦ (λ t. absurd (cc), λ both. absurd (cc))
    ] in
    one_more c.args.at c.args.lead c.args.taken c.args.is_first c.args.choices.now c.loop-choice.choice-index c.choice-item.result before one c.if-may_end.may_end
    (search rules) c.choice-item.is c.loop-choice.invariant c.in_ok-may_end_by_it.ensures both

pub returns : goal.returns
returns c = so_far_all c.args.at c.args.lead c.args.taken c.args.is_first c.args.choices.now c.loop-choice.choice-index c.loop-choice.may_end (search rules) c.loop-choice.invariant
