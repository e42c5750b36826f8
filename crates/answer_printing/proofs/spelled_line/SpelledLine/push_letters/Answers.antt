-- The v of the rule before and the letters that are taken, one after the other.
use Rattle.std.proofs.Common.{ap, sym}
use Rattle.answer_printing.specs.Texts.{PrintedWith}
use Rattle.answer_printing.proofs.TextLemmas.{letters_appended}
use Rattle.answer_printing.proofs.spelled_line.SpelledLine.push_letters.Goals as goal

pub returns : goal.returns
returns c = record {
  ok = letters_appended c.args.self.now.rules c.self.inside.texts.now c.args.self.now.letters c.args.before c.args.step.now
      (sym (ap (λ (v : PrintedWith). v.rules) c.self.view_is)) _ _ _ _ _ c.v.ensures c.spelled_letters.ensures
      c.in_ok-push_some.ensures c.in_ok-extend_from_slice.ensures.items;
}
