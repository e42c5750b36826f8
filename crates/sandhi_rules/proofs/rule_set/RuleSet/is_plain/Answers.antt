-- The look-ups are those of the plain pairs.
use Rattle.std.proofs.Common.{◌↔◌, IsTrue, subst}
use Rattle.lexicon_definitions.specs.Lexicons.{RuleSet, IsPlain}
use Rattle.sandhi_rules.proofs.rule_set.RuleSet.is_plain.Goals as goal

pub returns : goal.returns
returns c =
    subst (λ (set : RuleSet). IsTrue c.has.result ↔ IsPlain set c.args.x c.args.y) c.self.view_is
    (c.has.ensures c.self.inside.plain.items c.self.invariant.allowed_are)
