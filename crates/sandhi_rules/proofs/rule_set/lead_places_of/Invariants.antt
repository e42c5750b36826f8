-- So far there is a place for each rule that was gone over, and it is that of its lead.
use Rattle.sandhi_rules.specs.LeadPlaces.{ArePlacesSoFar}
use Rattle.sandhi_rules.proofs.rule_set.lead_places_of.Given as goal

abbrev pub invariant-loop-rule : goal.invariant-loop-rule
invariant-loop-rule l = ArePlacesSoFar l.leads l.rules l.rule-index l.places.items
