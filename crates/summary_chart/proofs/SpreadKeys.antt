-- What is spread by one key, by some and by others, and by all that are possible: a key that leads on is possible, and where it
-- leads to is one place, whose state is led to by one of the set.
use Rattle.std.proofs.Common.{◌≡◌, ◌⊎◌, inl, inr, ℕ, ◌↔◌, IsSome, Option, Some, None, List, length, refl, sym, ◌∙◌, ap, subst}
use Rattle.text_definitions.specs.Lines.{Line}
use Rattle.lexicon_definitions.specs.Leads.{leads_of}
use Rattle.lexicon_definitions.proofs.LeadLaws.{leads_rise}
use Rattle.segmentation_definitions.specs.Items.{Choice}
use Rattle.segmentation_definitions.specs.Listings.{Key}
use Rattle.phase_automaton.specs.Automata.{next_state}
use Rattle.derivation.specs.Guides.{entrance_of}
use Rattle.derivation.specs.declared.entrance.Entrance.{Entrance}
use Rattle.annotated_trie.specs.Searched.{SearchedLexicon}
use Rattle.search_frames.specs.declared.configuration.Configuration.{Configuration}
use Rattle.search_frames.specs.Configurations.{NumberedConfiguration, rules_in, IsPossible}
use Rattle.search_frames.specs.Frames.{IsConfigurationIn, numbered_of}
use Rattle.search_frames.specs.Tests.{LeadsTo}
use Rattle.search_frames.specs.LetterTests.{MayLeadOn, MayLeadTo}
use Rattle.search_frames.proofs.ConfigurationRanks.{possible_if_leads, may_if_leads}
use Rattle.summary_chart.specs.declared.state_set.StateSet.{StateSet}
use Rattle.summary_chart.specs.declared.table.Table.{Table}
use Rattle.summary_chart.specs.StateSets.{HasState, IsLedTo}
use Rattle.summary_chart.specs.Tables.{IsTable, IsEntrance, IsIn, index_in, set_of, set_at}
use Rattle.summary_chart.specs.Spreading.{Spreads, IsLedOnTo, OnlyKey, leads_in, standing_with}
use Rattle.summary_chart.proofs.TableOrder.{same_index}
use Rattle.summary_chart.proofs.TableStates.{IsNumbered, numbered_in, same_configuration}
use Rattle.summary_chart.proofs.TablePlaces.{IsGrown, same_entrance, same_index_in, had_or_added, still_in, in_with}

module _ (searched : SearchedLexicon) (line : Line) (choices : List Choice) (place : Configuration) (set : StateSet) where
  -- some keys and then others spread what all of them do
  pub spreads_both : (IsFirst IsSecond : Key → Type 0) (old mid new : Table)
      → Spreads searched line choices place.at place.entrance set IsFirst old mid
      → Spreads searched line choices place.at place.entrance set IsSecond mid new
      → Spreads searched line choices place.at place.entrance set (λ key. IsFirst key ⊎ IsSecond key) old new
  spreads_both IsFirst IsSecond old mid new first second = record {
    keeps = λ other is. second.keeps other (first.keeps other is);
    adds = λ key next told led. elim told [
      | inl one ↦ second.keeps next (first.adds key next one led)
      | inr other ↦ second.adds key next other led
    ];
    only = λ other within is. elim (second.only other within is) [
      | inl mid_has ↦ elim (first.only other within mid_has) [
        | inl old_has ↦ inl old_has
        | inr (key, told, led) ↦ inr (key, inl told, led)
      ]
      | inr (key, told, led) ↦ inr (key, inr told, led)
    ];
  }

  -- keys that are told in two ways
  pub spreads_same : (IsFirst IsSecond : Key → Type 0) (old new : Table)
      → ((key : Key) (next : Configuration) → IsSecond key → IsLedOnTo searched line choices place.at place.entrance set key next → IsFirst key)
      → ((key : Key) → IsFirst key → IsSecond key)
      → Spreads searched line choices place.at place.entrance set IsFirst old new
      → Spreads searched line choices place.at place.entrance set IsSecond old new
  spreads_same IsFirst IsSecond old new back forth spreads = record {
    keeps = spreads.keeps;
    adds = λ key next told led. spreads.adds key next (back key next told led) led;
    only = λ other within is. elim (spreads.only other within is) [
      | inl there ↦ inl there
      | inr (key, told, led) ↦ inr (key, forth key told, led)
    ];
  }

  -- a key that leads on from a state is possible at the place, whatever its state
  pub possible_if_led : (key : Key) (next : Configuration) → IsLedOnTo searched line choices place.at place.entrance set key next
      → IsPossible searched line (numbered_of searched place) key
  possible_if_led key next (number, has, leads) =
      let possible = possible_if_leads searched line choices (standing_with searched place.at place.entrance number) key leads.leads_on in
      record { number = possible.number; within = possible.within; form = possible.form }

  -- what leads on from a state may lead on as the letters tell
  pub may_if_led : (key : Key) (next : Configuration) → IsLedOnTo searched line choices place.at place.entrance set key next
      → MayLeadOn searched line choices (numbered_of searched place) key
  may_if_led key next (number, has, leads) =
      let may = may_if_leads searched line choices (standing_with searched place.at place.entrance number) key leads.leads_on in
      record { stands = may.stands; inner = may.inner; left = may.left }

  -- the state of a place to which a key leads on from a state
  pub led_state : (key : Key) (number : ℕ) (next : Configuration) → LeadsTo searched line choices (standing_with searched place.at place.entrance number) key next
      → (known : Option ℕ) → next_state searched.machine (Some number) key.phase ≡ known
      → (to : ℕ) × (next_state searched.machine (Some number) key.phase ≡ Some to) × (next.state ≡ Some to)
  led_state key number next leads None same = let live : IsSome {T = ℕ} None = subst IsSome same leads.leads_on.live in absurd (cc (live))
  led_state key number next leads (Some to) same = (to, same, ap (λ (s : NumberedConfiguration). s.state) leads.is ∙ same)

  -- where a key leads on to as the letters tell
  module _ (key : Key) (at : ℕ) (entrance : Entrance) (may : MayLeadTo searched line choices (numbered_of searched place) key at entrance) where
    -- a place to which it leads on from a state is this one, with the state to which that one leads
    pub led_place : (number : ℕ) (next : Configuration) → LeadsTo searched line choices (standing_with searched place.at place.entrance number) key next
        → (next.at ≡ at) × (next.entrance ≡ entrance)
        × ((to : ℕ) × (next_state searched.machine (Some number) key.phase ≡ Some to) × (next.state ≡ Some to))
    led_place number next leads = (
      ap (λ (s : NumberedConfiguration). s.at) leads.is ∙ sym may.at_is,
      same_entrance (leads_of (rules_in searched).rules) next.entrance entrance (leads_rise (rules_in searched).rules) leads.within.over may.over
          (ap (λ (s : NumberedConfiguration). s.entrance) leads.is ∙ sym may.entrance_is),
      led_state key number next leads (next_state searched.machine (Some number) key.phase) refl,
    )

    -- it leads to a place that is this one from a state that leads to the place's
    pub leads_to_place : (number to : ℕ) (next : Configuration) → IsConfigurationIn searched line next → next.at ≡ at → next.entrance ≡ entrance → next.state ≡ Some to
        → next_state searched.machine (Some number) key.phase ≡ Some to
        → LeadsTo searched line choices (standing_with searched place.at place.entrance number) key next
    leads_to_place number to next within same_at same_entrance_there same_state leads = record {
      leads_on = record { stands = may.may.stands; inner = may.may.inner; left = may.may.left; live = subst IsSome (sym leads) refl };
      is = λ i. record {
        at = (same_at ∙ may.at_is) i;
        entrance = (ap (entrance_of (leads_of (rules_in searched).rules)) same_entrance_there ∙ may.entrance_is) i;
        state = (same_state ∙ sym leads) i;
      };
      within = within;
    }

    -- where the set's states lead by its phase was put into the table there, so it was spread
    pub spreads_one : (added : StateSet) (old new : Table) → IsEntrance entrance → IsTable (leads_in searched) (length line.letters) old
        → ((number : ℕ) → HasState added number ↔ IsLedTo searched.machine set key.phase number)
        → IsGrown (index_in old at entrance) added old new
        → Spreads searched line choices place.at place.entrance set (OnlyKey key) old new
    spreads_one added old new proper is led grown =
        let index = index_in old at entrance in
        record {
          keeps = λ other was. still_in index added old new other grown was;
          adds = λ other next told led_on. put_in next (subst (λ (k : Key). IsLedOnTo searched line choices place.at place.entrance set k next) told led_on);
          only = λ other within in_new. there other within in_new (numbered_in (set_at new other.at other.entrance) other.state in_new.state);
        }
      where
        put_in : (next : Configuration) → IsLedOnTo searched line choices place.at place.entrance set key next → IsIn new next
        put_in next (number, has, leads) =
            let there = led_place number next leads in
            let to = there.2.0 in
            let put = (led to).1 (number, has, there.2.1) in
            in_with new next at to entrance there.0 there.1 there.2.2 proper
            (subst (λ (i : ℕ). HasState (set_of new i) to) (sym (same_index_in (index_in old at entrance) at entrance old new grown.changes))
            ((grown.grown to).1 (inr put)))

        there : (other : Configuration) → IsConfigurationIn searched line other → IsIn new other
            → IsNumbered (set_at new other.at other.entrance) other.state
            → IsIn old other ⊎ ((k : Key) × OnlyKey key k × IsLedOnTo searched line choices place.at place.entrance set k other)
        there other within in_new told =
            let index = index_in old at entrance in
            let number = told.number in
            let in_order = subst (λ (i : ℕ). HasState (set_of new i) number) (same_index_in index other.at other.entrance old new grown.changes) told.has in
            elim (had_or_added index added old new grown (index_in old other.at other.entrance) number in_order) [
              | inl had ↦ inl (in_with old other other.at number other.entrance refl refl told.is in_new.entrance had)
              | inr (same, put) ↦
                  let leads = leads_in searched in
                  let left = same_configuration leads (length line.letters) other.at other.entrance old is in
                  let right = same_configuration leads (length line.letters) at entrance old is in
                  let cut = same_index leads other.at at other.entrance entrance in_new.entrance proper within.over may.over (sym left ∙ same ∙ right) in
                  let from = (led number).0 put in
                  inr (key, refl, (from.0, from.1, leads_to_place from.0 number other within cut.at_is cut.entrance_is told.is from.2))
            ]
