-- The u of the rule and the phase are appended after the letters.
use Rattle.std.proofs.Common.{ap, sym}
use Rattle.answer_printing.specs.Texts.{PrintedWith}
use Rattle.answer_printing.proofs.TextLemmas.{form_appended}
use Rattle.answer_printing.proofs.spelled_line.SpelledLine.push_form_and_phase.Goals as goal

pub returns : goal.returns
returns c = record {
  ok = form_appended c.args.self.now.rules c.self.inside.texts.now c.args.self.now.letters c.args.before c.args.step.now
      (sym (ap (λ (v : PrintedWith). v.rules) c.self.view_is)) _ _ c.in_ok-push_letters.ensures.ok _ _ _ _ c.u.ensures c.phase.ensures
      c.in_ok-push_some.ensures c.in_ok-extend_from_slice.ensures.items;
}
