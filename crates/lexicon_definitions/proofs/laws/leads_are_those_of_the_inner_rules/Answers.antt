-- By the laws on leads.
use Rattle.lexicon_definitions.proofs.LeadLaws.{leads_rise, Contains-leads_of}
use Rattle.lexicon_definitions.proofs.laws.leads_are_those_of_the_inner_rules.Goals as goal

pub returns-clause-rising : goal.returns-clause-rising
returns-clause-rising c = leads_rise

pub returns-clause-members : goal.returns-clause-members
returns-clause-members c = Contains-leads_of
