-- 0 is no rule.
use Rattle.answer_printing.proofs.TextLemmas.{no_u}
use Rattle.answer_printing.proofs.rule_texts.RuleTexts.u.Goals as goal

pub returns-in-0 : goal.returns-in-0
returns-in-0 c = no_u c.args.self.now c.args.rule c.in-0.is
