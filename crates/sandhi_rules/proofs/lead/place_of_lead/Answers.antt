-- The lead is among the leads, which rise, so the search finds it.
use Rattle.std.proofs.Common.{◌≡◌, [], rules}
use Rattle.std.proofs.lemmas.Fn.{always_returns_same}
use Rattle.lexicon_definitions.specs.Leads.{compare_leads, lead_of}
use Rattle.sandhi_rules.proofs.LeadSearches.{not_absent, found_place}
use Rattle.sandhi_rules.proofs.lead.place_of_lead.Goals as goal

pub unreachable-requires : goal.unreachable-requires
unreachable-requires c =
    let inner = λ (e : c.args.rule.now.v ≡ []). absurd (cc (c.is_final.ensures.1 e)) in
    not_absent c.args.leads.now c.args.rule.now c.in-Err._place c.requires.rising (c.requires.there inner)
    (c.in-Err.ensures.position (λ lead. compare_leads lead (lead_of c.args.rule.now)) (always_returns_same _ _ _ (λ a r f' k. search rules)))

pub returns : goal.returns
returns c =
    let inner = λ (e : c.args.rule.now.v ≡ []). absurd (cc (c.is_final.ensures.1 e)) in (
      inner,
      found_place c.args.leads.now c.args.rule.now c.in-Ok.place c.in-Ok.ensures.bound
          (c.in-Ok.ensures.position (λ lead. compare_leads lead (lead_of c.args.rule.now)) (always_returns_same _ _ _ (λ a r f' k. search rules))),
    )
