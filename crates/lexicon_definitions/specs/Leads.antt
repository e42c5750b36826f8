-- Leads: what an inner rule says of the form after it (own).
use Rattle.std.specs.Prelude.{◌≡◌, ℕ, List, [], ◌∷◌, Contains, Option, Some, None, slice_get}
use Rattle.std.specs.declared.cmp.Ordering.{Ordering}
use Rattle.std.specs.Ordering.{nat_cmp, ordering_then}
use Rattle.list_laws.specs.RisingSets.{with_element}
use Rattle.text_definitions.specs.Words.{compare_words}
use Rattle.lexicon_definitions.specs.Rules.{Rule, IsInner, IsFinal}

-- the letters that begin the form after the rule, and the set of the phases that it may have
pub record Lead : Type 0 where
  pub v : List ℕ
  pub after : ℕ

-- leads are ordered by v, then by the number of the set of phases
abbrev pub compare_leads : Lead → Lead → Ordering
compare_leads left right = ordering_then (compare_words left.v right.v) (nat_cmp left.after right.after)

-- rising leads with that of a rule with this v and this set of phases after it; a final rule, whose v is empty, has no lead
abbrev pub with_lead : List Lead → List ℕ → ℕ → List Lead
with_lead leads [] after = leads
with_lead leads (letter ∷ letters) after = with_element compare_leads leads (record { v = letter ∷ letters; after = after })

-- rising leads with those of each of these rules
abbrev pub with_leads : List Lead → List Rule → List Lead
with_leads leads [] = leads
with_leads leads (rule ∷ rules) = with_leads (with_lead leads rule.v rule.after) rules

-- the different leads of the inner rules, rising
abbrev pub leads_of : List Rule → List Lead
leads_of rules = with_leads [] rules

-- the lead is that of an inner rule among these
abbrev pub IsLeadOf : List Rule → Lead → Type 0
IsLeadOf rules lead = (rule : Rule) × Contains rules rule × IsInner rule × (rule.v ≡ lead.v) × (rule.after ≡ lead.after)

-- the lead of an inner rule
abbrev pub lead_of : Rule → Lead
lead_of rule = record { v = rule.v; after = rule.after }

-- where the rule's lead stands among the leads, counted from 0; a final rule has no lead
abbrev pub IsLeadPlace : List Lead → Rule → Option ℕ → Type 0
IsLeadPlace leads rule None = IsFinal rule
IsLeadPlace leads rule (Some place) = IsInner rule × (slice_get leads place ≡ Some (lead_of rule))
