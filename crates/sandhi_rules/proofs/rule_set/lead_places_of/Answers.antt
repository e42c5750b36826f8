-- The leads are those of all the rules, so that of each inner one is among them.
use Rattle.std.proofs.Common.{◌≡◌, ℕ, sym, ap, subst, arith, length}
use Rattle.std.specs.List.Sorted.{IsStrictlySortedBy}
use Rattle.lexicon_definitions.specs.Leads.{compare_leads}
use Rattle.lexicon_definitions.proofs.LeadLaws.{leads_rise}
use Rattle.sandhi_rules.specs.LeadPlaces.{ArePlacesSoFar}
use Rattle.sandhi_rules.proofs.LeadSearches.{one_place_more, lead_is_there}
use Rattle.sandhi_rules.proofs.rule_set.lead_places_of.Goals as goal

pub loop-rule-init : goal.loop-rule-init
loop-rule-init c = record { as_many = ap length c.in_ok-places.ensures.items; each = λ k l. absurd (omega arith) }

pub place_of_lead-requires-clause-rising : goal.place_of_lead-requires-clause-rising
place_of_lead-requires-clause-rising c =
    subst (IsStrictlySortedBy compare_leads) (sym c.requires.leads) (leads_rise c.args.rules.now)

pub place_of_lead-requires-clause-there : goal.place_of_lead-requires-clause-there
place_of_lead-requires-clause-there c =
    lead_is_there c.args.rules.now c.args.leads.now c.loop-rule.rule-index c.rule-item.result c.requires.leads c.loop-rule-test.true c.rule-item.is

pub loop-rule-preserved : goal.loop-rule-preserved
loop-rule-preserved c =
    one_place_more c.args.leads.now c.args.rules.now c.loop-rule.rule-index c.loop-rule.places.items _ c.rule-item.result _
    c.loop-rule.invariant c.loop-rule-test.true c.rule-item.is c.place_of_lead.ensures c.in_ok-push.ensures.items

pub returns : goal.returns
returns c =
    let at : c.loop-rule.rule-index ≡ length c.args.rules.now = omega arith in
    record {
      ok = subst (λ leads. ArePlacesSoFar leads c.args.rules.now (length c.args.rules.now) c.loop-rule.places.items) c.requires.leads
          (subst (λ n. ArePlacesSoFar c.args.leads.now c.args.rules.now n c.loop-rule.places.items) at c.loop-rule.invariant);
    }
