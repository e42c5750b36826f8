-- The number, the steps and the line's end, one after another.
use Rattle.std.proofs.Common.{◌++◌, ap, ◌∙◌}
use Rattle.answer_printing.proofs.TextLemmas.{answer_appended}
use Rattle.answer_printing.proofs.PrintedFronts.{with_view}
use Rattle.answer_printing.proofs.answer_printer.AnswerPrinter.push_answer.Goals as goal

pub returns-clause-ok : goal.returns-clause-ok
returns-clause-ok c =
    answer_appended c.args.self.now.rules c.args.number _ _ _ _ _ _ _ _ c.format.ensures.text c.as_bytes.ensures.value
    c.in_ok-extend_from_slice.ensures.items
    c.in_ok-extend_from_slice-2.ensures.items
    (c.in_ok-extend_from_slice-3.ensures.items ∙ ap (λ text. c.extend_from_slice-2.new.self.items ++ text) (c.as_slice.ensures.value ∙ with_view _ _ c.args.steps.now _ c.self.view_is c.in_default.ensures.text))
    c.in_ok-push.ensures.items
