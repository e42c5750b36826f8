-- The form and the end are appended.
use Rattle.std.proofs.Common.{◌++◌, length, ap, ◌∙◌}
use Rattle.segmentation_definitions.specs.PrintedAnswers.{printed_end}
use Rattle.answer_printing.specs.Texts.{PrintedWith}
use Rattle.answer_printing.proofs.PrintedFronts.{ended, ended_there}
use Rattle.answer_printing.proofs.spelled_line.SpelledLine.push_last.Goals as goal

pub returns-clause-starts : goal.returns-clause-starts
returns-clause-starts c =
    ended_there c.args.self.now.rules c.args.self.now.letters c.args.front.now.steps.items c.args.before c.args.front.now.text.items c.requires.open
    c.args.step.now (length c.as_slice-at.result.now) c.push.new.self.items (ap length c.as_slice-at.ensures.value) c.in_ok-push.ensures.items
    c.push_form_and_phase.new.output.items c.push_some.new.output.items c.in_ok-push_form_and_phase.ensures.ok
    (c.in_ok-push_some.ensures ∙ ap (λ text. c.push_form_and_phase.new.output.items ++ text) (c.end.ensures ∙ ap (λ (printer : PrintedWith). printed_end printer.rules c.args.step.now.rule) c.self.view_is))

pub returns-clause-text : goal.returns-clause-text
returns-clause-text c =
    (ended c.args.self.now.rules c.args.self.now.letters c.args.front.now.steps.items c.args.before c.args.front.now.text.items c.requires.open
    c.args.step.now c.push_form_and_phase.new.output.items c.push_some.new.output.items c.in_ok-push_form_and_phase.ensures.ok
    (c.in_ok-push_some.ensures ∙ ap (λ text. c.push_form_and_phase.new.output.items ++ text) (c.end.ensures ∙ ap (λ (printer : PrintedWith). printed_end printer.rules c.args.step.now.rule) c.self.view_is))).1
