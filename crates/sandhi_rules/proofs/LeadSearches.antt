-- What a binary search among rising leads says of the lead of a rule.
use Rattle.std.proofs.Common.{◌≡◌, ◌≢◌, ℕ, ◌+◌, ◌<◌, ◌≤◌, inl, inr, List, [], ◌∷◌, ◌++◌, length, slice_get, get_or, Option, Some, None, Result, Ok, Err, Contains, refl, sym, ◌∙◌, ap, subst, arith}
use Rattle.std.specs.List.{insert}
use Rattle.std.specs.List.Sorted.{IsStrictlySortedBy, IsBinarySearchResult}
use Rattle.std.proofs.lemmas.Bool.{cases_lt}
use Rattle.std.proofs.lemmas.List.{get_or_default, get_or_append_left, get_or_push, length-append}
use Rattle.std.proofs.lemmas.Option.{slice_get-get_or}
use Rattle.lexicon_definitions.specs.Rules.{Rule, IsInner, no_change}
use Rattle.lexicon_definitions.specs.Leads.{Lead, compare_leads, lead_of, leads_of, with_lead, IsLeadPlace}
use Rattle.lexicon_definitions.proofs.LeadLaws.{compare_leads_total, compare_leads_exact, with_lead_some, Contains-leads_of}
use Rattle.sandhi_rules.specs.LeadPlaces.{ArePlacesSoFar}
use Rattle.list_laws.proofs.RisingSetLaws.{with_element_at, with_element_found, absent_at}

-- where the search ends, the lead goes
pub with_lead_at : (leads : List Lead) (rule : Rule) (i : ℕ) → IsStrictlySortedBy compare_leads leads → IsInner rule → i ≤ length leads
    → IsBinarySearchResult (λ lead. compare_leads lead (lead_of rule)) leads (Err i)
    → with_lead leads rule.v rule.after ≡ insert leads i (lead_of rule)
with_lead_at leads rule i s inner low found =
    with_lead_some leads rule.v rule.after inner ∙ with_element_at compare_leads_total compare_leads_exact leads (lead_of rule) i s low found

-- where it finds the lead, nothing changes
pub with_lead_found : (leads : List Lead) (rule : Rule) (i : ℕ) → IsStrictlySortedBy compare_leads leads → IsInner rule → i < length leads
    → IsBinarySearchResult (λ lead. compare_leads lead (lead_of rule)) leads (Ok i) → with_lead leads rule.v rule.after ≡ leads
with_lead_found leads rule i s inner low found =
    with_lead_some leads rule.v rule.after inner ∙ with_element_found compare_leads_total compare_leads_exact leads (lead_of rule) i s low found

-- a lead that is there is found
pub not_absent : (leads : List Lead) (rule : Rule) (i : ℕ) → IsStrictlySortedBy compare_leads leads → Contains leads (lead_of rule)
    → IsBinarySearchResult (λ lead. compare_leads lead (lead_of rule)) leads (Err i) → ⊥
not_absent leads rule i s there found = absent_at compare_leads_total compare_leads_exact leads (lead_of rule) i s found there

-- and it stands where the search finds it
pub found_place : (leads : List Lead) (rule : Rule) (i : ℕ) → i < length leads
    → IsBinarySearchResult (λ lead. compare_leads lead (lead_of rule)) leads (Ok i) → slice_get leads i ≡ Some (lead_of rule)
found_place leads rule i low found =
    let here : get_or leads i (lead_of rule) ≡ lead_of rule = compare_leads_exact _ _ (found (lead_of rule)) in
    slice_get-get_or leads i (lead_of rule) low ∙ ap (λ lead. Some lead) here

-- one place more
pub one_place_more : (leads : List Lead) (rules : List Rule) (i : ℕ) (places more : List (Option ℕ)) (rule : Rule) (place : Option ℕ)
    → ArePlacesSoFar leads rules i places → i < length rules → rule ≡ get_or rules i rule → IsLeadPlace leads rule place
    → more ≡ places ++ place ∷ [] → ArePlacesSoFar leads rules (i + 1) more
one_place_more leads rules i places more rule place so_far low is here pushed =
    let count = so_far.as_many in
    let same : get_or rules i no_change ≡ rule = get_or_default rules i no_change rule low ∙ sym is in
    record {
      as_many = ap length pushed ∙ length-append places (place ∷ []) ∙ omega arith;
      each = λ k l. elim (cases_lt k i) [
        | inl before ↦ subst (λ o. IsLeadPlace leads (get_or rules k no_change) o)
            (sym (ap (λ xs. get_or xs k None) pushed ∙ get_or_append_left places (place ∷ []) None k (omega arith))) (so_far.each k before)
        | inr last ↦
            let at : k ≡ i = omega arith in
            subst (λ n. IsLeadPlace leads (get_or rules n no_change) (get_or more n None)) (sym at)
            (subst (λ r. IsLeadPlace leads r (get_or more i None)) (sym same)
            (subst (λ o. IsLeadPlace leads rule o) (sym (ap (λ xs. get_or xs i None) pushed ∙ get_or_push places place None i count)) here))
      ];
    }

-- a rule's lead is among the leads of the rules
pub lead_is_there : (rules : List Rule) (leads : List Lead) (i : ℕ) (rule : Rule) → leads ≡ leads_of rules → i < length rules
    → rule ≡ get_or rules i rule → IsInner rule → Contains leads (lead_of rule)
lead_is_there rules leads i rule are low is inner =
    subst (λ ls. Contains ls (lead_of rule)) (sym are)
    ((Contains-leads_of rules (lead_of rule)).1 (rule, (i, low, sym is), inner, refl, refl))
