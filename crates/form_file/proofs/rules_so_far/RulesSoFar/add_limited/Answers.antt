-- The rule is appended as any is, and its leads are kept.
use Rattle.std.proofs.Common.{List, [], ◌∷◌, ◌++◌, ◌<◌, length, sym, ◌∙◌, ap, subst}
use Rattle.lexicon_definitions.specs.declared.limits.TheConstants.{MOST_RULES}
use Rattle.lexicon_definitions.specs.Rules.{Rule}
use Rattle.lexicon_definitions.specs.Leads.{leads_of}
use Rattle.form_file.specs.Added.{has_twin}
use Rattle.form_file.proofs.rules_so_far.RulesSoFar.add_limited.Goals as goal

pub add-requires : goal.add-requires
add-requires c = subst (λ (rs : List Rule). length rs < MOST_RULES) (sym c.in_ok-leads.ensures.same) c.in_ok-leads.ensures.few

pub invariant_of-self : goal.invariant_of-self
invariant_of-self c = (
  c.self.invariant.0,
  c.in_ok-leads.ensures.ok ∙ ap (λ (rs : List Rule). leads_of (rs ++ c.args.rule ∷ [])) (sym c.in_ok-leads.ensures.same) ∙ ap leads_of (sym c.in_ok-add.ensures.1 ∙ sym c.self.view_is),
)

pub returns : goal.returns
returns c = (
  c.in_ok-leads.ensures.within,
  ap (λ (rs : List Rule). has_twin rs c.args.rule) (sym c.in_ok-leads.ensures.same) ∙ c.in_ok-add.ensures.0,
  c.self.view_is ∙ c.in_ok-add.ensures.1 ∙ ap (λ (rs : List Rule). rs ++ c.args.rule ∷ []) c.in_ok-leads.ensures.same,
)
