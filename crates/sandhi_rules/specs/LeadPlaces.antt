-- What a rule set keeps of its leads: their list, and the place of each rule's lead there; and what it keeps in all (own).
use Rattle.std.specs.Prelude.{◌≡◌, ℕ, ◌<◌, Bool, List, length, slice_index_or, Option, None}
use Rattle.lexicon_definitions.specs.Rules.{Rule, no_change}
use Rattle.lexicon_definitions.specs.Leads.{Lead, leads_of, IsLeadPlace}
use Rattle.lexicon_definitions.specs.Lexicons.{RuleSet, IsRuleSet}
use Rattle.lexicon_definitions.specs.Limits.{IsRuleSetWithinLimits}
use Rattle.sandhi_rules.specs.AllowedPairs.{AreAllowed}

-- these are the places of the first count rules' leads among the leads
pub record ArePlacesSoFar (leads : List Lead) (rules : List Rule) (count : ℕ) (places : List (Option ℕ)) : Type 0 where
  pub as_many : length places ≡ count
  pub each : (k : ℕ) → k < count → IsLeadPlace leads (slice_index_or rules k no_change) (slice_index_or places k None)

-- these are the places of the rules' leads, each among the leads of all the rules
abbrev pub AreLeadPlaces : List Rule → List (Option ℕ) → Type 0
AreLeadPlaces rules places = ArePlacesSoFar (leads_of rules) rules (length rules) places

-- a rule set within the limits, with its leads, their places, and its plain pairs by look-up
pub record IsRuleSetWithLookups (set : RuleSet) (leads : List Lead) (places : List (Option ℕ)) (allowed : List Bool) : Type 0 where
  pub set_itself : IsRuleSet set
  pub limits : IsRuleSetWithinLimits set
  pub leads_are : leads ≡ leads_of set.rules
  pub places_are : AreLeadPlaces set.rules places
  pub allowed_are : AreAllowed set.plain allowed
