-- The leads that were kept rise, and those with the rule's are the leads of all.
use Rattle.std.proofs.Common.{List, sym, ◌∙◌, ap, subst}
use Rattle.std.specs.List.Sorted.{IsStrictlySortedBy}
use Rattle.lexicon_definitions.specs.Leads.{Lead, compare_leads, with_lead}
use Rattle.lexicon_definitions.proofs.LeadLaws.{leads_rise, leads_of-push}
use Rattle.form_file.proofs.rules_so_far.RulesSoFar.leads_within.Goals as goal

pub add_lead-requires : goal.add_lead-requires
add_lead-requires c = subst (IsStrictlySortedBy compare_leads) (sym c.in_ok-leads.ensures.ok) (leads_rise c.args.self.now)

pub returns-clause-ok : goal.returns-clause-ok
returns-clause-ok c =
    c.in_ok-add_lead.ensures.ok ∙ ap (λ (leads : List Lead). with_lead leads c.args.rule.now.v c.args.rule.now.after) c.in_ok-leads.ensures.ok ∙ sym (leads_of-push c.args.self.now c.args.rule.now)
