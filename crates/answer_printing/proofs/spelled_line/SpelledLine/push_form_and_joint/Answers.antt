-- What joins the form to the next is appended after it.
use Rattle.std.proofs.Common.{ap, sym}
use Rattle.answer_printing.specs.Texts.{PrintedWith}
use Rattle.answer_printing.proofs.TextLemmas.{joint_appended}
use Rattle.answer_printing.proofs.spelled_line.SpelledLine.push_form_and_joint.Goals as goal

pub returns : goal.returns
returns c = record {
  ok = joint_appended c.args.self.now.rules c.self.inside.texts.now c.args.step.now.rule _ _ _ _ _
      (sym (ap (λ (v : PrintedWith). v.rules) c.self.view_is)) c.joint.ensures c.in_ok-push_form_and_phase.ensures.ok
      c.in_ok-extend_from_slice.ensures.items;
}
