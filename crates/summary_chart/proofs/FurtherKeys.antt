-- Which states go further by one key, by some and by others, and by all that are possible: a key that ends the line or leads on
-- is possible, and no key does both.
use Rattle.std.proofs.Common.{◌≡◌, inl, inr, ℕ, ◌↔◌, Some, List, refl, sym, ◌∙◌, subst}
use Rattle.std.proofs.lemmas.Option.{same_Some}
use Rattle.text_definitions.specs.Lines.{Line}
use Rattle.segmentation_definitions.specs.Items.{Choice}
use Rattle.segmentation_definitions.specs.Listings.{Key}
use Rattle.phase_automaton.specs.Automata.{IsStateIn}
use Rattle.derivation.specs.declared.entrance.Entrance.{Entrance}
use Rattle.annotated_trie.specs.Searched.{SearchedLexicon}
use Rattle.search_frames.specs.declared.configuration.Configuration.{Configuration}
use Rattle.search_frames.specs.Configurations.{Ends, IsPossible}
use Rattle.search_frames.specs.Frames.{IsConfigurationIn, numbered_of}
use Rattle.search_frames.specs.Tests.{LeadsTo}
use Rattle.search_frames.specs.LetterTests.{MayLeadOn, MayEndLine, MayNeither, MayLeadTo}
use Rattle.search_frames.proofs.ConfigurationRanks.{possible_if_leads, possible_if_ends, may_if_leads, may_if_ends, not_both_ways}
use Rattle.summary_chart.specs.declared.state_set.StateSet.{StateSet}
use Rattle.summary_chart.specs.declared.table.Table.{Table}
use Rattle.summary_chart.specs.StateSets.{HasState, IsStateOf, IsAcceptedBy, LeadsInto}
use Rattle.summary_chart.specs.Tables.{IsEntrance, set_at}
use Rattle.summary_chart.specs.Spreading.{AreGoingFurther, GoesFurtherBy, OnlyKey, standing_with}
use Rattle.summary_chart.proofs.TableStates.{numbered_in}
use Rattle.summary_chart.proofs.TablePlaces.{in_with}
use Rattle.summary_chart.proofs.SpreadKeys.{led_place, leads_to_place}

module _ (searched : SearchedLexicon) (line : Line) (choices : List Choice) (table : Table) (place : Configuration) (set : StateSet) where
  -- from no state of the set does a key that is told go further, so no key does
  pub further_nothing : (IsTold : Key → Type 0) (result : StateSet) → ((number : ℕ) → HasState result number → ⊥)
      → ((key : Key) (number : ℕ) → IsTold key → GoesFurtherBy searched line choices table (standing_with searched place.at place.entrance number) key → ⊥)
      → AreGoingFurther searched line choices table place.at place.entrance set IsTold result
  further_nothing IsTold result empty none number = (
    λ has. absurd (empty number has),
    λ goes. absurd (none goes.1.0 number goes.1.1 goes.1.2),
  )

  -- a key by which a state goes further is possible at the place, whatever its state
  pub possible_if_further : (key : Key) (number : ℕ)
      → GoesFurtherBy searched line choices table (standing_with searched place.at place.entrance number) key
      → IsPossible searched line (numbered_of searched place) key
  possible_if_further key number (inl ends) =
      let possible = possible_if_ends searched line choices (standing_with searched place.at place.entrance number) key ends in
      record { number = possible.number; within = possible.within; form = possible.form }
  possible_if_further key number (inr (next, leads, is)) =
      let possible = possible_if_leads searched line choices (standing_with searched place.at place.entrance number) key leads.leads_on in
      record { number = possible.number; within = possible.within; form = possible.form }

  -- what a state does it may do as the letters tell, whatever the place's state
  pub may_lead : (key : Key) (number : ℕ) (next : Configuration) → LeadsTo searched line choices (standing_with searched place.at place.entrance number) key next
      → MayLeadOn searched line choices (numbered_of searched place) key
  may_lead key number next leads =
      let may = may_if_leads searched line choices (standing_with searched place.at place.entrance number) key leads.leads_on in
      record { stands = may.stands; inner = may.inner; left = may.left }

  pub may_end : (key : Key) (number : ℕ) → Ends searched line choices (standing_with searched place.at place.entrance number) key
      → MayEndLine searched line choices (numbered_of searched place) key
  may_end key number ends =
      let may = may_if_ends searched line choices (standing_with searched place.at place.entrance number) key ends in
      record { stands = may.stands; final_rule = may.final_rule; all = may.all; blanks_before = may.blanks_before }

  -- so a key by which a state goes further is not one that may do neither
  pub not_neither : (key : Key) (number : ℕ)
      → GoesFurtherBy searched line choices table (standing_with searched place.at place.entrance number) key
      → MayNeither searched line choices (numbered_of searched place) key → ⊥
  not_neither key number (inl ends) neither = neither.ends (may_end key number ends)
  not_neither key number (inr (next, leads, is)) neither = neither.leads_on (may_lead key number next leads)

  -- only one key is told
  only_one : (key : Key) (result : StateSet)
      → ((number : ℕ) → HasState result number
      ↔ (IsStateOf searched.machine set number × GoesFurtherBy searched line choices table (standing_with searched place.at place.entrance number) key))
      → AreGoingFurther searched line choices table place.at place.entrance set (OnlyKey key) result
  only_one key result are number = (
    λ has. let goes = (are number).0 has in (goes.0, (key, refl, goes.1)),
    λ goes. (are number).1 (goes.0, subst (GoesFurtherBy searched line choices table (standing_with searched place.at place.entrance number)) goes.1.1 goes.1.2),
  )

  -- where a key leads on to as the letters tell, the states go further that its phase leads to one of those there
  pub further_on : (key : Key) (at : ℕ) (entrance : Entrance) (targets result : StateSet)
      → MayLeadTo searched line choices (numbered_of searched place) key at entrance
      → IsEntrance entrance → targets ≡ set_at table at entrance
      → ((number : ℕ) → HasState result number ↔ LeadsInto searched.machine set key.phase targets number)
      → AreGoingFurther searched line choices table place.at place.entrance set (OnlyKey key) result
  further_on key at entrance targets result may proper same_targets are = only_one key result (λ number. (
    λ has.
        let into = (are number).0 has in
        let to = into.1.0 in
        let next : Configuration = record { at = at; entrance = entrance; state = Some to } in
        let within : IsConfigurationIn searched line next = record { letters = may.within; over = may.over; state_in = into.1.2.0 } in
        let leads = leads_to_place searched line choices place set key at entrance may number to next within refl refl refl into.1.1 in
        let there = subst (λ (s : StateSet). HasState s to) same_targets into.1.2.1 in
        (into.0, inr (next, leads, in_with table next at to entrance refl refl refl proper there)),
    λ goes. elim goes.1 [
      | inl ends ↦ absurd (not_both_ways searched line choices (numbered_of searched place) key (may_end key number ends) may.may)
      | inr (next, leads, is) ↦
          let there = led_place searched line choices place set key at entrance may number next leads in
          let to = there.2.0 in
          let told = numbered_in (set_at table next.at next.entrance) next.state is.state in
          let same_number : told.number ≡ to = same_Some told.number to (sym told.is ∙ there.2.2) in
          let in_set = subst (λ (n : ℕ). HasState (set_at table next.at next.entrance) n) same_number told.has in
          let at_place = subst (λ (a : ℕ). HasState (set_at table a next.entrance) to) there.0 in_set in
          let at_entrance = subst (λ (e : Entrance). HasState (set_at table at e) to) there.1 at_place in
          let in_targets = subst (λ (s : StateSet). HasState s to) (sym same_targets) at_entrance in
          let state_in = subst (IsStateIn searched.machine) there.2.2 leads.within.state_in in
          (are number).1 (goes.0, (to, there.2.1, (state_in, in_targets)))
    ],
  ))

  -- where a key ends the line as the letters tell, the states go further that its phase leads to one that ends words
  pub further_ends : (key : Key) (result : StateSet) → MayEndLine searched line choices (numbered_of searched place) key
      → ((number : ℕ) → HasState result number ↔ IsAcceptedBy searched.machine set key.phase number)
      → AreGoingFurther searched line choices table place.at place.entrance set (OnlyKey key) result
  further_ends key result may are = only_one key result (λ number. (
    λ has.
        let accepted = (are number).0 has in (
          accepted.0,
          inl (record {
            stands = may.stands;
            final_rule = may.final_rule;
            all = may.all;
            blanks_before = may.blanks_before;
            accepted = accepted.1;
          }),
        ),
    λ goes. elim goes.1 [
      | inl ends ↦ (are number).1 (goes.0, ends.accepted)
      | inr (next, leads, is) ↦ absurd (not_both_ways searched line choices (numbered_of searched place) key may (may_lead key number next leads))
    ],
  ))

  -- and none goes further by a key that may do neither
  pub further_neither : (key : Key) (result : StateSet) → MayNeither searched line choices (numbered_of searched place) key
      → ((number : ℕ) → HasState result number → ⊥)
      → AreGoingFurther searched line choices table place.at place.entrance set (OnlyKey key) result
  further_neither key result neither none =
      further_nothing (OnlyKey key) result none
      (λ other number told by. not_neither other number by (subst (MayNeither searched line choices (numbered_of searched place)) (sym told) neither))
