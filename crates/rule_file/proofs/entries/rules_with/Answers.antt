use Rattle.std.proofs.Common.{[], ◌∷◌, ◌++◌, ◌∙◌, ap}
use Rattle.lexicon_definitions.specs.Rules.{Rule}
use Rattle.rule_file_definitions.specs.RuleEntries.{rule_with}
use Rattle.rule_file.proofs.Turns.{made_more}
use Rattle.rule_file.proofs.entries.rules_with.Goals as goal

pub loop-filling-preserved : goal.loop-filling-preserved
loop-filling-preserved c =
    made_more (rule_with c.args.phases c.args.pattern.now) c.args.fillings.now c.loop-filling.filling-index c.filling-item.result c.loop-filling.rules.items _ c.loop-filling-test.true
    c.filling-item.is (c.in_ok-push.ensures.items ∙ ap (λ (rule : Rule). c.loop-filling.rules.items ++ rule ∷ []) c.in_ok-rule_with.ensures) c.loop-filling.invariant
