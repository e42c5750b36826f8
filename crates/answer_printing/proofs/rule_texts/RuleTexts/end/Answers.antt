-- What stands between two forms, without the blank at its end.
use Rattle.std.proofs.Common.{codes}
use Rattle.segmentation_definitions.specs.PrintedAnswers.{printed_end}
use Rattle.answer_printing.proofs.TextLemmas.{joint_is_end, has_end, without_end}
use Rattle.answer_printing.proofs.rule_texts.RuleTexts.end.Goals as goal

pub slice_bounds-result-count : goal.slice_bounds-result-count
slice_bounds-result-count c =
    has_end _ (printed_end c.args.self.now c.args.rule) (codes " ")
    (joint_is_end c.args.self.now c.args.rule _ c.joint-joint.ensures c.if-rule-eq0.false)

pub returns : goal.returns
returns c =
    without_end _ (printed_end c.args.self.now c.args.rule) (codes " ")
    (joint_is_end c.args.self.now c.args.rule _ c.joint-joint.ensures c.if-rule-eq0.false)
