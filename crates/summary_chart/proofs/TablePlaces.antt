-- Entrances that mean the same are the same, since leads rise; and what is in a table after states were put into one of its sets, which
-- grows, was there or was put there.
use Rattle.std.proofs.Common.{◌≡◌, ◌⊎◌, inl, inr, ℕ, ◌+◌, ◌-◌, ◌*◌, ◌<◌, ◌≤◌, ◌↔◌, Option, Some, None, List, [], length, refl, sym, ◌∙◌, ap, subst, arith}
use Rattle.std.specs.List.Sorted.{IsStrictlySortedBy}
use Rattle.std.specs.Ordering.{ordering_reverse}
use Rattle.std.specs.declared.cmp.Ordering.{Ordering}
use Rattle.std.specs.declared.cmp.Ordering.TheVariants.{Less, Equal, Greater}
use Rattle.std.proofs.lemmas.Bool.{cases_eq, cases_lt}
use Rattle.std.proofs.lemmas.Nat.{mul-add-lt}
use Rattle.std.proofs.Math.Nat.{mul_comm}
use Rattle.std.proofs.lemmas.Map.Keys.{Less-from_sorted}
use Rattle.lexicon_definitions.specs.Leads.{Lead, compare_leads}
use Rattle.lexicon_definitions.proofs.LeadLaws.{same_lead, compare_leads_total}
use Rattle.derivation.specs.Guides.{IsEntranceOver, entrance_of, lead_at}
use Rattle.derivation.specs.declared.entrance.Entrance.{Entrance}
use Rattle.derivation.specs.declared.entrance.Entrance.TheVariants.{Start, Plain, Lead as ByLead}
use Rattle.search_frames.specs.declared.configuration.Configuration.{Configuration}
use Rattle.summary_chart.specs.declared.state_set.StateSet.{StateSet}
use Rattle.summary_chart.specs.declared.table.Table.{Table}
use Rattle.summary_chart.specs.StateSets.{HasState}
use Rattle.summary_chart.specs.Tables.{IsTable, AreEntrances, IsEntrance, HasSet, HasThisState, IsIn, ChangesAt, width_over, column_of, index_of, index_in, set_of, set_at}
use Rattle.summary_chart.proofs.TableOrder.{column_within}
use Rattle.summary_chart.proofs.TableStates.{same_configuration}

-- ---- entrances

not_less_self : (o : Ordering) → o ≡ ordering_reverse o → o ≡ Less → ⊥
not_less_self Less e l = absurd (cc)
not_less_self Equal e l = absurd (cc)
not_less_self Greater e l = absurd (cc)

no_lead_below_itself : (lead : Lead) → compare_leads lead lead ≡ Less → ⊥
no_lead_below_itself lead = not_less_self (compare_leads lead lead) (compare_leads_total.antisymm lead lead)

not_before : (leads : List Lead) (left right : ℕ) → IsStrictlySortedBy compare_leads leads → left < right → right < length leads
    → lead_at leads left ≡ lead_at leads right → ⊥
not_before leads left right rise before within same =
    no_lead_below_itself (lead_at leads right)
    (subst (λ (lead : Lead). compare_leads lead (lead_at leads right) ≡ Less) same
    (Less-from_sorted compare_leads leads left right (record { v = []; after = 0 }) rise before within))

-- leads rise, so each stands at one place
same_lead_place : (leads : List Lead) (left right : ℕ) → IsStrictlySortedBy compare_leads leads → left < length leads → right < length leads
    → lead_at leads left ≡ lead_at leads right → left ≡ right
same_lead_place leads left right rise left_in right_in same = elim (cases_lt left right) [
  | inl before ↦ absurd (not_before leads left right rise before right_in same)
  | inr not_before_it ↦ elim (cases_lt right left) [
    | inl after ↦ absurd (not_before leads right left rise after left_in (sym same))
    | inr not_after_it ↦ omega arith
  ]
]

-- entrances over the leads that mean the same are the same
pub same_entrance : (leads : List Lead) (left right : Entrance) → IsStrictlySortedBy compare_leads leads → IsEntranceOver leads left → IsEntranceOver leads right
    → entrance_of leads left ≡ entrance_of leads right → left ≡ right
same_entrance leads Start Start rise left_in right_in same = refl
same_entrance leads Start (Plain letter) rise left_in right_in same = absurd (cc)
same_entrance leads Start (ByLead place) rise left_in right_in same = absurd (cc)
same_entrance leads (Plain letter) Start rise left_in right_in same = absurd (cc)
same_entrance leads (Plain letter) (Plain other) rise left_in right_in same = cc
same_entrance leads (Plain letter) (ByLead place) rise left_in right_in same = absurd (cc)
same_entrance leads (ByLead place) Start rise left_in right_in same = absurd (cc)
same_entrance leads (ByLead place) (Plain letter) rise left_in right_in same = absurd (cc)
same_entrance leads (ByLead place) (ByLead other) rise left_in right_in same =
    let v : (lead_at leads place).v ≡ (lead_at leads other).v = cc in
    let after : (lead_at leads place).after ≡ (lead_at leads other).after = cc in
    ap (λ (p : ℕ). ByLead p) (same_lead_place leads place other rise left_in right_in (same_lead (lead_at leads place) (lead_at leads other) v after))

-- ---- the sets of a table

-- a table has a set for each number of letters of its line and each entrance over its leads
pub has_set : (leads : List Lead) (letters : ℕ) (table : Table) (at : ℕ) (entrance : Entrance) → IsTable leads letters table → at ≤ letters → IsEntranceOver leads entrance
    → HasSet table at entrance
has_set leads letters table at entrance is within over =
    let width = is.entrances.width in
    let count = is.count in
    record {
      wide = omega (arith, width);
      there = λ proper.
          let index = same_configuration leads letters at entrance table is in
          let below : at * width_over (length leads) + column_of (length leads) entrance < width_over (length leads) * (letters + 1) =
          mul-add-lt at (width_over (length leads)) (column_of (length leads) entrance) (letters + 1) (omega arith) (column_within leads entrance proper over) in
          let turned : length table.sets.items ≡ width_over (length leads) * (letters + 1) = count ∙ mul_comm (letters + 1) (width_over (length leads)) in
          omega (arith, index, below, turned);
      bits = is.bits;
    }

-- a table is still one where a set changed
pub still_table : (leads : List Lead) (letters index : ℕ) (old new : Table) → ChangesAt index old new → IsTable leads letters old → IsTable leads letters new
still_table leads letters index old new changes is = record {
  entrances = subst (λ entrances. AreEntrances (length leads) entrances.items) (sym changes.entrances) is.entrances;
  count = changes.count ∙ is.count;
  bits = changes.bits;
}

-- ---- states at an index

-- a state that is in one set is in another that has its states
pub more_states : (less more : StateSet) (state : Option ℕ) → ((number : ℕ) → HasState less number → HasState more number)
    → HasThisState less state → HasThisState more state
more_states less more None keeps has = absurd has
more_states less more (Some number) keeps has = keeps number has

-- the states were put into the set at the index, and no other set changed
pub record IsGrown (index : ℕ) (added : StateSet) (old new : Table) : Type 0 where
  pub changes : ChangesAt index old new
  pub grown : (number : ℕ) → HasState (set_of new index) number ↔ (HasState (set_of old index) number ⊎ HasState added number)

-- what was in a set still is
pub still_has : (index : ℕ) (added : StateSet) (old new : Table) → IsGrown index added old new
    → (other number : ℕ) → HasState (set_of old other) number → HasState (set_of new other) number
still_has index added old new is other number has = elim (cases_eq other index) [
  | inl same ↦ subst (λ i. HasState (set_of new i) number) (sym same) ((is.grown number).1 (inl (subst (λ i. HasState (set_of old i) number) same has)))
  | inr apart ↦ subst (λ (set : StateSet). HasState set number) (sym (is.changes.others other apart)) has
]

-- and what is in one was there, or was put there
pub had_or_added : (index : ℕ) (added : StateSet) (old new : Table) → IsGrown index added old new
    → (other number : ℕ) → HasState (set_of new other) number → HasState (set_of old other) number ⊎ ((other ≡ index) × HasState added number)
had_or_added index added old new is other number has = elim (cases_eq other index) [
  | inl same ↦ elim ((is.grown number).0 (subst (λ i. HasState (set_of new i) number) same has)) [
    | inl there ↦ inl (subst (λ i. HasState (set_of old i) number) (sym same) there)
    | inr put ↦ inr (same, put)
  ]
  | inr apart ↦ inl (subst (λ (set : StateSet). HasState set number) (is.changes.others other apart) has)
]

-- an entrance has the same index before and after
pub same_index_in : (index at : ℕ) (entrance : Entrance) (old new : Table) → ChangesAt index old new → index_in new at entrance ≡ index_in old at entrance
same_index_in index at entrance old new changes =
    ap (λ entrances. index_of (length entrances.items - 51) at entrance) changes.entrances

-- states were put into the set of an entrance
pub grown_at : (at : ℕ) (entrance : Entrance) (added : StateSet) (old new : Table) → ChangesAt (index_in old at entrance) old new
    → ((number : ℕ) → HasState (set_at new at entrance) number ↔ (HasState (set_at old at entrance) number ⊎ HasState added number))
    → IsGrown (index_in old at entrance) added old new
grown_at at entrance added old new changes grown = record {
  changes = changes;
  grown = λ number. subst (λ (i : ℕ). HasState (set_of new i) number ↔ (HasState (set_at old at entrance) number ⊎ HasState added number))
      (same_index_in (index_in old at entrance) at entrance old new changes) (grown number);
}

-- what was in a table still is where a set has grown
pub still_in : (index : ℕ) (added : StateSet) (old new : Table) (place : Configuration) → IsGrown index added old new → IsIn old place → IsIn new place
still_in index added old new place is was = record {
  entrance = was.entrance;
  state = more_states (set_at old place.at place.entrance) (set_at new place.at place.entrance) place.state
      (λ number has. subst (λ i. HasState (set_of new i) number) (sym (same_index_in index place.at place.entrance old new is.changes))
      (still_has index added old new is (index_in old place.at place.entrance) number has))
      was.state;
}

-- a place whose state has this number is in a table where the set there has it
pub in_with : (table : Table) (place : Configuration) (at number : ℕ) (entrance : Entrance) → place.at ≡ at → place.entrance ≡ entrance → place.state ≡ Some number
    → IsEntrance entrance → HasState (set_at table at entrance) number → IsIn table place
in_with table place at number entrance same_at same_entrance_there same_state proper has = record {
  entrance = subst IsEntrance (sym same_entrance_there) proper;
  state = subst (λ (a : ℕ). HasThisState (set_at table a place.entrance) place.state) (sym same_at)
      (subst (λ (e : Entrance). HasThisState (set_at table at e) place.state) (sym same_entrance_there)
      (subst (HasThisState (set_at table at entrance)) (sym same_state) has));
}
