-- The leads of the rules so far rise, and the next rule adds its own.
use Rattle.std.proofs.Common.{◌≡◌, ◌∙◌, ◌∷◌, [], ◌++◌, sym, ap, subst, take}
use Rattle.std.specs.List.Sorted.{IsStrictlySortedBy}
use Rattle.std.proofs.lemmas.List.{take_more, take_all}
use Rattle.lexicon_definitions.specs.Leads.{compare_leads, leads_of, with_lead}
use Rattle.lexicon_definitions.proofs.LeadLaws.{leads_rise, leads_of-push}
use Rattle.sandhi_rules.proofs.rule_set.leads_of_rules.Goals as goal

pub loop-rule-init : goal.loop-rule-init
loop-rule-init c = c.new-leads.ensures.items

pub add_lead-requires : goal.add_lead-requires
add_lead-requires c =
    subst (IsStrictlySortedBy compare_leads) (sym c.loop-rule.invariant) (leads_rise (take c.loop-rule.rule-index c.args.rules.now))

pub loop-rule-preserved : goal.loop-rule-preserved
loop-rule-preserved c =
    let rules = c.args.rules.now in
    let i = c.loop-rule.rule-index in
    let rule = c.rule-item.result in
    c.in_ok-add_lead.ensures.ok
    ∙ ap (λ leads. with_lead leads rule.v rule.after) c.loop-rule.invariant
    ∙ sym (leads_of-push (take i rules) rule)
    ∙ ap leads_of (sym (take_more rules i rule c.loop-rule-test.true ∙ ap (λ last. take i rules ++ last ∷ []) (sym c.rule-item.is)))

pub returns : goal.returns
returns c = record {
  ok = c.loop-rule.invariant ∙ ap leads_of (take_all c.loop-rule.rule-index c.args.rules.now c.loop-rule-test.false);
}
