-- What keys of a place do to a table by which they lead on, and to the states that go further by them (`VisitedKeys`).
use Rattle.std.proofs.Common.{◌≡◌, ◌↔◌, ◌⊎◌, ℕ, inl, inr, IsSome, Option, Some, None, List, refl, subst}
use Rattle.std.specs.Prelude.{IsTrue}
use Rattle.text_definitions.specs.Lines.{Line}
use Rattle.segmentation_definitions.specs.Items.{Choice}
use Rattle.segmentation_definitions.specs.Listings.{Key}
use Rattle.phase_automaton.specs.Automata.{next_state, is_accepting}
use Rattle.answer_paths.specs.Following.{MayStand}
use Rattle.annotated_trie.specs.Searched.{SearchedLexicon}
use Rattle.search_frames.specs.declared.configuration.Configuration.{Configuration}
use Rattle.search_frames.specs.Frames.{numbered_of}
use Rattle.summary_chart.specs.declared.state_set.StateSet.{StateSet}
use Rattle.summary_chart.specs.declared.table.Table.{Table}
use Rattle.summary_chart.specs.StateSets.{HasState, IsStateOf, IsLedTo}
use Rattle.summary_chart.specs.Spreading.{Spreads, IsLedOnTo, GathersMore, GoesFurtherBy, AreGoingFurther, standing_with}
use Rattle.summary_chart.proofs.SpreadKeys.{spreads_both, spreads_same, possible_if_led}
use Rattle.summary_chart.proofs.FurtherKeys.{possible_if_further}
use Rattle.summary_chart.proofs.VisitedKeys.{Visit}

-- a state that is live after a phase, or ends words, is one to which the phase leads
pub live_somewhere : (searched : SearchedLexicon) (set : StateSet) (phase number : ℕ) (known : Option ℕ) → next_state searched.machine (Some number) phase ≡ known
    → IsStateOf searched.machine set number → IsSome (next_state searched.machine (Some number) phase) → (to : ℕ) × IsLedTo searched.machine set phase to
live_somewhere searched set phase number None same state live = (let none : IsSome {T = ℕ} None = subst IsSome same live in absurd (cc none))
live_somewhere searched set phase number (Some to) same state live = (to, (number, state, same))

pub ended_somewhere : (searched : SearchedLexicon) (set : StateSet) (phase number : ℕ) (known : Option ℕ) → next_state searched.machine (Some number) phase ≡ known
    → IsStateOf searched.machine set number → IsTrue (is_accepting searched.machine (next_state searched.machine (Some number) phase))
    → (to : ℕ) × IsLedTo searched.machine set phase to
ended_somewhere searched set phase number None same state accepted =
    let none : IsTrue (is_accepting searched.machine None) = subst (λ (s : Option ℕ). IsTrue (is_accepting searched.machine s)) same accepted in
    absurd (cc none)
ended_somewhere searched set phase number (Some to) same state accepted = (to, (number, state, same))

module _ (searched : SearchedLexicon) (line : Line) (choices : List Choice) (place : Configuration) (set : StateSet) where
  -- where keys lead on to
  abbrev pub spread_visit : Visit searched line choices place Table
  spread_visit = record {
    Adds = Spreads searched line choices place.at place.entrance set;
    Does = λ key. (next : Configuration) × IsLedOnTo searched line choices place.at place.entrance set key next;
    none = λ IsTold table nothing. record {
      keeps = λ other there. there;
      adds = λ key next told led. absurd (nothing key (next, led) told);
      only = λ other within there. inl there;
    };
    both = spreads_both searched line choices place set;
    same = λ IsFirst IsSecond old new back forth.
        spreads_same searched line choices place set IsFirst IsSecond old new (λ key next second led. back key (next, led) second) forth;
    possible = λ key does. possible_if_led searched line choices place set key does.0 does.1;
    stands = λ key does. does.1.2.leads_on.stands;
  }

  module _ (table : Table) where
    pub further_stands : (key : Key) (number : ℕ) → GoesFurtherBy searched line choices table (standing_with searched place.at place.entrance number) key
        → MayStand searched.lexicon line choices place.at (numbered_of searched place).entrance key
    further_stands key number (inl ends) = ends.stands
    further_stands key number (inr (next, leads, there)) = leads.leads_on.stands

    pub further_leads : (key : Key) (number : ℕ) → IsStateOf searched.machine set number
        → GoesFurtherBy searched line choices table (standing_with searched place.at place.entrance number) key → (to : ℕ) × IsLedTo searched.machine set key.phase to
    further_leads key number state (inl ends) =
        ended_somewhere searched set key.phase number (next_state searched.machine (Some number) key.phase) refl state ends.accepted
    further_leads key number state (inr (next, leads, there)) =
        live_somewhere searched set key.phase number (next_state searched.machine (Some number) key.phase) refl state leads.leads_on.live

    pub gather_both : (IsFirst IsSecond : Key → Type 0) (s t u : StateSet)
        → GathersMore searched line choices table place.at place.entrance set IsFirst s t
        → GathersMore searched line choices table place.at place.entrance set IsSecond t u
        → GathersMore searched line choices table place.at place.entrance set (λ key. IsFirst key ⊎ IsSecond key) s u
    gather_both IsFirst IsSecond s t u first second number = (
      λ has. elim ((second number).0 has) [
        | inl mid ↦ elim ((first number).0 mid) [
          | inl old ↦ inl old
          | inr goes ↦ inr (goes.0, (goes.1.0, inl goes.1.1, goes.1.2))
        ]
        | inr goes ↦ inr (goes.0, (goes.1.0, inr goes.1.1, goes.1.2))
      ],
      λ either. elim either [
        | inl old ↦ (second number).1 (inl ((first number).1 (inl old)))
        | inr goes ↦ elim goes.1.1 [
          | inl one ↦ (second number).1 (inl ((first number).1 (inr (goes.0, (goes.1.0, one, goes.1.2)))))
          | inr other ↦ (second number).1 (inr (goes.0, (goes.1.0, other, goes.1.2)))
        ]
      ],
    )

    -- which states go further by keys
    abbrev pub gather_visit : Visit searched line choices place StateSet
    gather_visit = record {
      Adds = GathersMore searched line choices table place.at place.entrance set;
      Does = λ key. (number : ℕ) × IsStateOf searched.machine set number
          × GoesFurtherBy searched line choices table (standing_with searched place.at place.entrance number) key;
      none = λ IsTold states nothing number. (
        λ has. inl has,
        λ either. elim either [
          | inl has ↦ has
          | inr goes ↦ absurd (nothing goes.1.0 (number, goes.0, goes.1.2) goes.1.1)
        ],
      );
      both = gather_both;
      same = λ IsFirst IsSecond old new back forth first number. (
        λ has. elim ((first number).0 has) [
          | inl had ↦ inl had
          | inr goes ↦ inr (goes.0, (goes.1.0, forth goes.1.0 goes.1.1, goes.1.2))
        ],
        λ either. elim either [
          | inl had ↦ (first number).1 (inl had)
          | inr goes ↦ (first number).1 (inr (goes.0, (goes.1.0, back goes.1.0 (number, goes.0, goes.1.2) goes.1.1, goes.1.2)))
        ],
      );
      possible = λ key does. possible_if_further searched line choices table place set key does.0 does.2;
      stands = λ key does. further_stands key does.0 does.2;
    }

    -- those that were put to no state are all that go further by the keys
    pub all_further : (IsTold : Key → Type 0) (empty gathered : StateSet) → ((number : ℕ) → HasState empty number → ⊥)
        → GathersMore searched line choices table place.at place.entrance set IsTold empty gathered
        → AreGoingFurther searched line choices table place.at place.entrance set IsTold gathered
    all_further IsTold empty gathered none gathers number = (
      λ has. elim ((gathers number).0 has) [
        | inl nothing ↦ absurd (none number nothing)
        | inr goes ↦ goes
      ],
      λ goes. (gathers number).1 (inr goes),
    )

    -- those that were found are put to others
    pub gathers_found : (IsTold : Key → Type 0) (before found later : StateSet) → AreGoingFurther searched line choices table place.at place.entrance set IsTold found
        → ((number : ℕ) → HasState later number ↔ (HasState before number ⊎ HasState found number)) → GathersMore searched line choices table place.at place.entrance set IsTold before later
    gathers_found IsTold before found later are union number = (
      λ has. elim ((union number).0 has) [
        | inl had ↦ inl had
        | inr more ↦ inr ((are number).0 more)
      ],
      λ either. (union number).1 (elim either [
        | inl had ↦ inl had
        | inr goes ↦ inr ((are number).1 goes)
      ]),
    )
