-- 0 is no rule.
use Rattle.answer_printing.proofs.TextLemmas.{no_v}
use Rattle.answer_printing.proofs.rule_texts.RuleTexts.v.Goals as goal

pub returns-in-0 : goal.returns-in-0
returns-in-0 c = no_v c.args.self.now c.args.rule c.in-0.is
