-- The form and what joins it to the next are appended.
use Rattle.std.proofs.Common.{length, ap}
use Rattle.answer_printing.proofs.PrintedFronts.{joined_there}
use Rattle.answer_printing.proofs.spelled_line.SpelledLine.push_joined.Goals as goal

pub returns-clause-open : goal.returns-clause-open
returns-clause-open c =
    joined_there c.args.self.now.rules c.args.self.now.letters c.args.front.now.steps.items c.args.before c.args.front.now.text.items c.requires.open
    c.args.step.now (length c.as_slice-at.result.now) c.push.new.self.items (ap length c.as_slice-at.ensures.value) c.in_ok-push.ensures.items
    c.push_form_and_joint.new.output.items c.requires.rule c.in_ok-push_form_and_joint.ensures.ok
