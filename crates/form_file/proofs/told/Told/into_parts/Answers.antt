-- What was kept beside the rules is the automaton of their grammar, and the lists of the forms.
use Rattle.std.proofs.Common.{rules, ◌∙◌}
use Rattle.lexicon_definitions.specs.Lexicons.{IsRuleSet}
use Rattle.lexicon_definitions.specs.Limits.{IsRuleSetWithinLimits}
use Rattle.form_file.proofs.StageLemmas.{body_kept}
use Rattle.form_file.proofs.ListsTold.{rules_kept, automaton_kept, phases_kept}
use Rattle.form_file.proofs.told.Told.into_parts.Goals as goal

pub unreachable-requires : goal.unreachable-requires
unreachable-requires c =
    let some = (body_kept _ c.args.self c.self.inside.automaton c.self.inside.forms.value c.self.view_is c.requires.body c.self.invariant).has_automaton in search rules

pub new-requires-clause-set : goal.new-requires-clause-set
new-requires-clause-set c = rules_kept IsRuleSet _ c.args.self c.into_rules-rules.result.items c.self.view_is (c.into_rules-rules.ensures ∙ c.into_inner.ensures) c.requires.set

pub new-requires-clause-limits : goal.new-requires-clause-limits
new-requires-clause-limits c = rules_kept IsRuleSetWithinLimits _ c.args.self c.into_rules-rules.result.items c.self.view_is (c.into_rules-rules.ensures ∙ c.into_inner.ensures) c.requires.limits

pub returns-clause-automaton : goal.returns-clause-automaton
returns-clause-automaton c =
    automaton_kept _ c.args.self c.self.inside.automaton c.in-Some.automaton c.self.inside.forms.value c.self.view_is c.requires.body c.self.invariant c.in-Some.is

pub returns-clause-phases : goal.returns-clause-phases
returns-clause-phases c =
    phases_kept _ c.args.self c.self.inside.automaton c.in-Some.automaton c.self.inside.forms.value c.self.view_is c.requires.body c.self.invariant c.in-Some.is
