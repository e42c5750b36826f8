-- A rule more is unlimited.
use Rattle.std.proofs.Common.{◌+◌, ◌≡◌, ◌∙◌, ◌++◌, [], ◌∷◌, take, subst, sym, ap, arith}
use Rattle.std.specs.Prelude.{All}
use Rattle.std.proofs.lemmas.List.{take_all, take_more}
use Rattle.std.proofs.lemmas.List.Elements.{All-push}
use Rattle.lexicon_definitions.specs.Rules.{Rule, IsUnlimited}
use Rattle.lexicon_file.proofs.writing_rules.has_limited.Goals as goal

pub loop-rule-preserved : goal.loop-rule-preserved
loop-rule-preserved c =
    let front = take c.loop-rule.rule-index c.args.rules.now in
    let more : take (c.loop-rule.rule-index + 1) c.args.rules.now ≡ front ++ c.rule-item.result ∷ [] =
    take_more c.args.rules.now c.loop-rule.rule-index c.rule-item.result (omega arith) ∙ ap (λ (r : Rule). front ++ r ∷ []) (sym c.rule-item.is) in
    subst (All (IsUnlimited c.args.count)) (sym more) (All-push (IsUnlimited c.args.count) front c.rule-item.result c.loop-rule.invariant (c.is_unlimited.ensures.0 c.if-not-is_unlimited.false))

pub returns : goal.returns
returns c = subst (All (IsUnlimited c.args.count)) (take_all c.loop-rule.rule-index c.args.rules.now (omega arith)) c.loop-rule.invariant
