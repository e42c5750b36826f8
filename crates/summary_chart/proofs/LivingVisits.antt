-- After which states the line goes on by keys of a place, whatever state comes before (`VisitedKeys`): by one key as its test tells, and by those
-- with a front where each key does what its rule does. From these the states before a phase are told that go further by it.
use Rattle.std.proofs.Common.{◌≡◌, ◌⊎◌, inl, inr, ℕ, ◌+◌, ◌<◌, ◌↔◌, Bool, true, false, IsTrue, Option, Some, None, List, length, Contains, refl, sym, ap, subst, ◌∙◌, arith}
use Rattle.std.proofs.lemmas.Bool.{cases_lt}
use Rattle.text_definitions.specs.Lines.{Line}
use Rattle.lexicon_definitions.specs.Leads.{leads_of}
use Rattle.lexicon_definitions.proofs.LeadLaws.{leads_rise}
use Rattle.segmentation_definitions.specs.Items.{Choice}
use Rattle.segmentation_definitions.specs.Listings.{Key}
use Rattle.phase_automaton.specs.Automata.{IsStateIn, is_accepting, next_state}
use Rattle.derivation.specs.declared.entrance.Entrance.{Entrance}
use Rattle.answer_paths.specs.Following.{MayStand, step_at}
use Rattle.annotated_trie.specs.Choices.{choices_of}
use Rattle.annotated_trie.specs.Searched.{SearchedLexicon, IsSearchedLexicon}
use Rattle.search_frames.specs.declared.configuration.Configuration.{Configuration}
use Rattle.search_frames.specs.declared.letter_testing.LetterTest.TheVariants as test
use Rattle.search_frames.specs.Ahead.{MayBegin, RuleFails, RuleLeadsTo, RuleEnds}
use Rattle.search_frames.specs.Configurations.{NumberedConfiguration, IsPossible, rules_in}
use Rattle.search_frames.specs.Frames.{IsConfigurationIn, numbered_of}
use Rattle.search_frames.specs.LetterTests.{DoAsTheseRules, MayEndLine, MayLeadTo, MayNeither}
use Rattle.search_frames.proofs.AheadTests.{entrance_changed}
use Rattle.search_frames.proofs.ConfigurationRanks.{not_both_ways}
use Rattle.summary_chart.specs.declared.state_set.StateSet.{StateSet}
use Rattle.summary_chart.specs.declared.table.Table.{Table}
use Rattle.summary_chart.specs.Fronts.{IsFrontAt}
use Rattle.summary_chart.specs.Memos.{LivesBy}
use Rattle.summary_chart.specs.Onward.{AreLivingBy, LivesByKey, LivesMore}
use Rattle.summary_chart.specs.StateSets.{HasState, IsStateOf, LeadsInto}
use Rattle.summary_chart.specs.Spreading.{AreGoingFurther, GoesFurtherBy, IsAtFront, IsByRule, IsInPhase, OnlyKey, place_with, standing_with}
use Rattle.summary_chart.specs.Summaries.{key_with}
use Rattle.summary_chart.specs.Tables.{HasThisState, IsEntrance, IsIn, set_at}
use Rattle.summary_chart.proofs.FrontKeys.{choice_if_possible, choice_possible, front_node}
use Rattle.summary_chart.proofs.FurtherKeys.{may_end, may_lead}
use Rattle.summary_chart.proofs.LivingKeys.{accepting_within, choice_number}
use Rattle.summary_chart.proofs.SpreadKeys.{leads_to_place}
use Rattle.summary_chart.proofs.TablePlaces.{in_with, same_entrance}
use Rattle.summary_chart.proofs.VisitedKeys.{Visit}

module _ (searched : SearchedLexicon) (line : Line) (choices : List Choice) (place : Configuration) (table : Table) where
  -- ---- as a visit of keys

  -- a key by which the line goes on may stand at the place, and so is possible there
  pub lives_stands : (key : Key) (number : ℕ) → LivesByKey searched line choices (numbered_of searched place) table key number
      → MayStand searched.lexicon line choices place.at (numbered_of searched place).entrance key
  lives_stands key number (inl ends) = ends.0.stands
  lives_stands key number (inr leads) = leads.2.may.stands

  pub lives_possible : (key : Key) (number : ℕ) → LivesByKey searched line choices (numbered_of searched place) table key number
      → IsPossible searched line (numbered_of searched place) key
  lives_possible key number lives =
      let stands = lives_stands key number lives in
      record { number = stands.number; within = stands.within; form = stands.form }

  pub lives_both : (IsFirst IsSecond : Key → Type 0) (s t u : StateSet)
      → LivesMore searched line choices (numbered_of searched place) table IsFirst s t
      → LivesMore searched line choices (numbered_of searched place) table IsSecond t u
      → LivesMore searched line choices (numbered_of searched place) table (λ key. IsFirst key ⊎ IsSecond key) s u
  lives_both IsFirst IsSecond s t u first second number = (
    λ has. elim ((second number).0 has) [
      | inl mid ↦ elim ((first number).0 mid) [
        | inl old ↦ inl old
        | inr lives ↦ inr (lives.0, inl lives.1, lives.2)
      ]
      | inr lives ↦ inr (lives.0, inr lives.1, lives.2)
    ],
    λ either. elim either [
      | inl old ↦ (second number).1 (inl ((first number).1 (inl old)))
      | inr lives ↦ elim lives.1 [
        | inl one ↦ (second number).1 (inl ((first number).1 (inr (lives.0, one, lives.2))))
        | inr other ↦ (second number).1 (inr (lives.0, other, lives.2))
      ]
    ],
  )

  -- after which states the line goes on by keys
  abbrev pub living_visit : Visit searched line choices place StateSet
  living_visit = record {
    Adds = LivesMore searched line choices (numbered_of searched place) table;
    Does = λ key. (number : ℕ) × LivesByKey searched line choices (numbered_of searched place) table key number;
    none = λ IsTold states nothing number. (
      λ has. inl has,
      λ either. elim either [
        | inl has ↦ has
        | inr lives ↦ absurd (nothing lives.0 (number, lives.2) lives.1)
      ],
    );
    both = lives_both;
    same = λ IsFirst IsSecond old new back forth first number. (
      λ has. elim ((first number).0 has) [
        | inl had ↦ inl had
        | inr lives ↦ inr (lives.0, forth lives.0 lives.1, lives.2)
      ],
      λ either. elim either [
        | inl had ↦ (first number).1 (inl had)
        | inr lives ↦ (first number).1 (inr (lives.0, back lives.0 (number, lives.2) lives.1, lives.2))
      ],
    );
    possible = λ key does. lives_possible key does.0 does.1;
    stands = λ key does. lives_stands key does.0 does.1;
  }

  -- those that were put to no state are all after which the line goes on by the keys
  pub all_living : (IsTold : Key → Type 0) (empty living : StateSet) → ((number : ℕ) → HasState empty number → ⊥)
      → LivesMore searched line choices (numbered_of searched place) table IsTold empty living
      → AreLivingBy searched line choices (numbered_of searched place) table IsTold living
  all_living IsTold empty living none more number = (
    λ has. elim ((more number).0 has) [
      | inl nothing ↦ absurd (none number nothing)
      | inr lives ↦ lives
    ],
    λ lives. (more number).1 (inr lives),
  )

  -- no key is told, so it goes on after none
  pub none_living : (IsTold : Key → Type 0) (first : StateSet) → ((key : Key) → IsTold key → ⊥) → ((number : ℕ) → HasState first number → ⊥)
      → (empty : StateSet) → ((number : ℕ) → HasState empty number → ⊥) → LivesMore searched line choices (numbered_of searched place) table IsTold empty first
  none_living IsTold first untold none empty nothing number = (
    λ has. absurd (none number has),
    λ either. elim either [
      | inl had ↦ absurd (nothing number had)
      | inr lives ↦ absurd (untold lives.0 lives.1)
    ],
  )

  -- those that were found are put to others
  pub lives_found : (IsTold : Key → Type 0) (before found later : StateSet) → AreLivingBy searched line choices (numbered_of searched place) table IsTold found
      → ((number : ℕ) → HasState later number ↔ (HasState before number ⊎ HasState found number))
      → LivesMore searched line choices (numbered_of searched place) table IsTold before later
  lives_found IsTold before found later are union number = (
    λ has. elim ((union number).0 has) [
      | inl had ↦ inl had
      | inr more ↦ inr ((are number).0 more)
    ],
    λ either. (union number).1 (elim either [
      | inl had ↦ inl had
      | inr lives ↦ inr ((are number).1 lives)
    ]),
  )

  -- those that were found are put to themselves
  pub lives_again : (IsTold : Key → Type 0) (found : StateSet) → AreLivingBy searched line choices (numbered_of searched place) table IsTold found
      → LivesMore searched line choices (numbered_of searched place) table IsTold found found
  lives_again IsTold found are number = (
    λ has. inl has,
    λ either. elim either [
      | inl has ↦ has
      | inr lives ↦ (are number).1 lives
    ],
  )

  -- those of more keys were put to those of some of them
  pub living_by_more : (IsTold IsMore : Key → Type 0) (found living : StateSet) → ((key : Key) → IsTold key → IsMore key)
      → AreLivingBy searched line choices (numbered_of searched place) table IsTold found
      → LivesMore searched line choices (numbered_of searched place) table IsMore found living
      → AreLivingBy searched line choices (numbered_of searched place) table IsMore living
  living_by_more IsTold IsMore found living more are lives number = (
    λ has. elim ((lives number).0 has) [
      | inl had ↦
          let by = (are number).0 had in
          (by.0, more by.0 by.1, by.2)
      | inr by ↦ by
    ],
    λ by. (lives number).1 (inr by),
  )

  -- ---- one key

  module _ (key : Key) (living : StateSet) where
    -- it leads on to a set of the table
    pub living_on : (at : ℕ) (entrance : Entrance) → MayLeadTo searched line choices (numbered_of searched place) key at entrance
        → IsEntrance entrance → living ≡ set_at table at entrance
        → AreLivingBy searched line choices (numbered_of searched place) table (OnlyKey key) living
    living_on at entrance may proper same number = (
      λ has.
          let there = subst (λ (s : StateSet). HasState s number) same has in
          (key, refl, inr (at, entrance, may, in_with table (place_with at entrance number) at number entrance refl refl refl proper there)),
      λ lives. elim (subst (λ (k : Key). LivesByKey searched line choices (numbered_of searched place) table k number) lives.1 lives.2) [
        | inl ends ↦ absurd (not_both_ways searched line choices (numbered_of searched place) key ends.0 may.may)
        | inr leads ↦
            let same_at : leads.0 ≡ at = leads.2.at_is ∙ sym may.at_is in
            let same_entered : leads.1 ≡ entrance =
            same_entrance (leads_of (rules_in searched).rules) leads.1 entrance (leads_rise (rules_in searched).rules) leads.2.over may.over
            (leads.2.entrance_is ∙ sym may.entrance_is) in
            let in_set : HasState (set_at table leads.0 leads.1) number = leads.3.state in
            let at_place = subst (λ (a : ℕ). HasState (set_at table a leads.1) number) same_at in_set in
            let at_entrance = subst (λ (e : Entrance). HasState (set_at table at e) number) same_entered at_place in
            subst (λ (s : StateSet). HasState s number) (sym same) at_entrance
      ],
    )

    -- it ends the line
    pub living_ends : MayEndLine searched line choices (numbered_of searched place) key
        → ((number : ℕ) → HasState living number ↔ IsTrue (is_accepting searched.machine (Some number)))
        → AreLivingBy searched line choices (numbered_of searched place) table (OnlyKey key) living
    living_ends may are number = (
      λ has. (key, refl, inl (may, (are number).0 has)),
      λ lives. elim (subst (λ (k : Key). LivesByKey searched line choices (numbered_of searched place) table k number) lives.1 lives.2) [
        | inl ends ↦ (are number).1 ends.1
        | inr leads ↦ absurd (not_both_ways searched line choices (numbered_of searched place) key may leads.2.may)
      ],
    )

    -- it does neither
    pub living_neither : MayNeither searched line choices (numbered_of searched place) key → ((number : ℕ) → HasState living number → ⊥)
        → AreLivingBy searched line choices (numbered_of searched place) table (OnlyKey key) living
    living_neither neither none number = (
      λ has. absurd (none number has),
      λ lives. elim (subst (λ (k : Key). LivesByKey searched line choices (numbered_of searched place) table k number) lives.1 lives.2) [
        | inl ends ↦ absurd (neither.ends ends.0)
        | inr leads ↦ absurd (neither.leads_on leads.2.may)
      ],
    )

  -- ---- a front at which each key does what its rule does

  module _ (is : IsSearchedLexicon searched) (phase taken node : ℕ) (front : IsFrontAt searched line (numbered_of searched place) phase taken node) where
    -- no change, and then the choices of the node
    pub living_shared : (unchanged changed both : StateSet)
        → AreLivingBy searched line choices (numbered_of searched place) table (OnlyKey (key_with phase taken 0)) unchanged
        → AreLivingBy searched line choices (numbered_of searched place) table (IsByRule phase taken (choices_of searched.tries node)) changed
        → ((number : ℕ) → HasState both number ↔ (HasState unchanged number ⊎ HasState changed number))
        → AreLivingBy searched line choices (numbered_of searched place) table (IsAtFront phase taken) both
    living_shared unchanged changed both first second union number = (
      λ has. elim ((union number).0 has) [
        | inl one ↦
            let lives = (first number).0 one in
            (lives.0, subst (IsAtFront phase taken) (sym lives.1) (refl, refl), lives.2)
        | inr other ↦
            let lives = (second number).0 other in
            (lives.0, (lives.1.0, lives.1.1), lives.2)
      ],
      λ lives.
          let key = lives.0 in
          let same : key ≡ key_with phase taken key.rule = λ i. record { phase = lives.1.0 i; taken = lives.1.1 i; rule = key.rule } in
          (union number).1 (elim (cases_lt 0 key.rule) [
            | inl above ↦
                let among = choice_if_possible searched is line (numbered_of searched place) phase taken node front key.rule above
                (subst (IsPossible searched line (numbered_of searched place)) same (lives_possible key number lives.2)) in
                inr ((second number).1 (key, (lives.1.0, lives.1.1, among), lives.2))
            | inr least ↦
                let nothing : key.rule ≡ 0 = omega (arith, least) in
                inl ((first number).1 (key, same ∙ ap (key_with phase taken) nothing, lives.2))
          ]),
    )

    module _ (ending : Bool) (rules : List ℕ) (among_choices : (rule : ℕ) → Contains rules rule → Contains (choices_of searched.tries node) rule)
        (does : DoAsTheseRules searched line choices (numbered_of searched place) taken ending rules)
        (begins : MayBegin (numbered_of searched place).entrance phase) where
      -- where a key with one of the rules ends the line, the line may end there, since else the rule does nothing there
      line_may_end : (may : Bool) → DoAsTheseRules searched line choices (numbered_of searched place) taken may rules → (rule : ℕ) → 0 < rule → Contains rules rule
          → MayEndLine searched line choices (numbered_of searched place) (key_with phase taken rule) → IsTrue may
      line_may_end true is_so rule some among ends = refl
      line_may_end false is_so rule some among ends =
          let stands = ends.stands in
          let fails : RuleFails (rules_in searched) line (place.at + taken) false phase rule =
          record { leads = λ there inner. inner (ends.final_rule some); ends = λ ended. (let may = ended.may in absurd (cc)) } in
          absurd ((is_so (key_with phase taken rule) test.Refused refl some among (record { number = stands.number; within = stands.within; form = stands.form }) begins fails).ends ends)

      -- what a key with one of them does, its rule does
      rule_lives : (rule number : ℕ) → 0 < rule → Contains rules rule → LivesByKey searched line choices (numbered_of searched place) table (key_with phase taken rule) number
          → ((at : ℕ) × (entrance : Entrance) × RuleLeadsTo (rules_in searched) line (place.at + taken) phase rule at entrance × IsIn table (place_with at entrance number))
          ⊎ (RuleEnds (rules_in searched) line (place.at + taken) ending phase rule × IsTrue (is_accepting searched.machine (Some number)))
      rule_lives rule number some among (inl ends) =
          let may = ends.0 in
          let ended : RuleEnds (rules_in searched) line (place.at + taken) ending phase rule = record {
            stands = record { follows = may.stands.follows some; written = may.stands.written };
            final_rule = may.final_rule some;
            all = may.all;
            may = line_may_end ending does rule some among may;
          } in
          inr (ended, ends.1)
      rule_lives rule number some among (inr leads) =
          let here = numbered_of searched place in
          let may = leads.2 in
          let led : RuleLeadsTo (rules_in searched) line (place.at + taken) phase rule leads.0 leads.1 = record {
            stands = record { follows = may.may.stands.follows some; written = may.may.stands.written };
            inner = may.may.inner some;
            at_is = may.at_is;
            entrance_is = may.entrance_is ∙ entrance_changed (rules_in searched) (step_at (rules_in searched) line here.at here.entrance (key_with phase taken rule)) some;
            over = may.over;
          } in
          inl (leads.0, leads.1, led, leads.3)

      -- so the states that live by the rules are those after which the line goes on by keys with them
      pub living_by_these : (living : StateSet)
          → ((number : ℕ) → HasState living number ↔ LivesBy searched line table (record { node = node; part = None; end = place.at + taken; may_end = ending; phase = phase })
          (Contains rules) number)
          → AreLivingBy searched line choices (numbered_of searched place) table (IsByRule phase taken rules) living
      living_by_these living lives number = (
        λ has.
            let here = numbered_of searched place in
            let by = (lives number).0 has in
            let rule = by.0 in
            let key = key_with phase taken rule in
            let chosen = among_choices rule by.1 in
            let some = (choice_number searched node rule is (front_node searched is line here phase taken node front) chosen).0 in
            let possible = choice_possible searched is line here phase taken node front rule chosen in (
              key,
              (refl, refl, by.1),
              elim by.2 [
                | inl led ↦ inr (led.0, led.1, does key (test.LeadsOn led.0 led.1) refl some by.1 possible begins led.2, led.3)
                | inr ended ↦ inl (does key test.Ends refl some by.1 possible begins ended.0, ended.1)
              ],
            ),
        λ goes.
            let key = goes.0 in
            let told = goes.1 in
            let same : key ≡ key_with phase taken key.rule = λ i. record { phase = told.0 i; taken = told.1 i; rule = key.rule } in
            let some = (choice_number searched node key.rule is (front_node searched is line (numbered_of searched place) phase taken node front) (among_choices key.rule told.2)).0 in
            (lives number).1 (
              key.rule,
              told.2,
              rule_lives key.rule number some told.2 (subst (λ (k : Key). LivesByKey searched line choices (numbered_of searched place) table k number) same goes.2),
            ),
      )

  -- ---- the states before a phase

  -- by keys of one phase that are told
  module _ (set : StateSet) (phase : ℕ) (living : StateSet) (IsTold : Key → Type 0) (in_phase : (key : Key) → IsTold key → key.phase ≡ phase)
      (are : AreLivingBy searched line choices (numbered_of searched place) table IsTold living) where
    -- a state goes further that the phase leads to one after which the line goes on
    goes_into : (number to : ℕ) → next_state searched.machine (Some number) phase ≡ Some to → to < length searched.machine.states → HasState living to
        → (key : Key) × IsTold key × GoesFurtherBy searched line choices table (standing_with searched place.at place.entrance number) key
    goes_into number to leads low has =
        let lives = (are to).0 has in
        let key = lives.0 in
        let by : next_state searched.machine (Some number) key.phase ≡ Some to =
        ap (λ (p : ℕ). next_state searched.machine (Some number) p) (in_phase key lives.1) ∙ leads in (
          key,
          lives.1,
          elim lives.2 [
            | inl ends ↦
                let may = ends.0 in
                inl (record {
                  stands = may.stands;
                  final_rule = may.final_rule;
                  all = may.all;
                  blanks_before = may.blanks_before;
                  accepted = subst (λ (s : Option ℕ). IsTrue (is_accepting searched.machine s)) (sym by) ends.1;
                })
            | inr led ↦
                let next = place_with led.0 led.1 to in
                let within : IsConfigurationIn searched line next = record { letters = led.2.within; over = led.2.over; state_in = low } in
                inr (next, leads_to_place searched line choices place set key led.0 led.1 led.2 number to next within refl refl refl by, led.3)
          ],
        )

    -- the other way, a state that goes further is led by the phase to such a one
    ended_in : (key : Key) (number : ℕ) → IsTold key → MayEndLine searched line choices (numbered_of searched place) key
        → IsTrue (is_accepting searched.machine (next_state searched.machine (Some number) key.phase))
        → (known : Option ℕ) → next_state searched.machine (Some number) key.phase ≡ known
        → (to : ℕ) × (next_state searched.machine (Some number) phase ≡ Some to) × IsStateOf searched.machine living to
    ended_in key number told may accepted None same =
        let none : IsTrue (is_accepting searched.machine None) = subst (λ (s : Option ℕ). IsTrue (is_accepting searched.machine s)) same accepted in
        absurd (cc none)
    ended_in key number told may accepted (Some to) same =
        let accepts : IsTrue (is_accepting searched.machine (Some to)) = subst (λ (s : Option ℕ). IsTrue (is_accepting searched.machine s)) same accepted in (
          to,
          ap (λ (p : ℕ). next_state searched.machine (Some number) p) (sym (in_phase key told)) ∙ same,
          (accepting_within searched.machine to accepts, (are to).1 (key, told, inl (may, accepts))),
        )

    led_in : (key : Key) (number : ℕ) (next : Configuration) → IsTold key → MayLeadTo searched line choices (numbered_of searched place) key next.at next.entrance
        → IsEntrance next.entrance → (known : Option ℕ) → next_state searched.machine (Some number) key.phase ≡ known → IsStateIn searched.machine known
        → HasThisState (set_at table next.at next.entrance) known
        → (to : ℕ) × (next_state searched.machine (Some number) phase ≡ Some to) × IsStateOf searched.machine living to
    led_in key number next told may proper None same low has = absurd has
    led_in key number next told may proper (Some to) same low has = (
      to,
      ap (λ (p : ℕ). next_state searched.machine (Some number) p) (sym (in_phase key told)) ∙ same,
      (low, (are to).1 (key, told, inr (next.at, next.entrance, may, record { entrance = proper; state = has }))),
    )

    goes_from : (key : Key) (number : ℕ) → IsTold key
        → GoesFurtherBy searched line choices table (standing_with searched place.at place.entrance number) key
        → (to : ℕ) × (next_state searched.machine (Some number) phase ≡ Some to) × IsStateOf searched.machine living to
    goes_from key number told (inl ends) =
        ended_in key number told (may_end searched line choices table place set key number ends) ends.accepted (next_state searched.machine (Some number) key.phase) refl
    goes_from key number told (inr (next, leads, there)) =
        let may : MayLeadTo searched line choices (numbered_of searched place) key next.at next.entrance = record {
          may = may_lead searched line choices table place set key number next leads;
          at_is = ap (λ (s : NumberedConfiguration). s.at) leads.is;
          entrance_is = ap (λ (s : NumberedConfiguration). s.entrance) leads.is;
          within = leads.within.letters;
          over = leads.within.over;
        } in
        let state : next_state searched.machine (Some number) key.phase ≡ next.state = sym (ap (λ (s : NumberedConfiguration). s.state) leads.is) in
        led_in key number next told may there.entrance next.state state leads.within.state_in there.state

    -- so those of a set that lead into the living states are those that go further by these keys
    pub further_by : (found : StateSet) → ((number : ℕ) → HasState found number ↔ LeadsInto searched.machine set phase living number)
        → AreGoingFurther searched line choices table place.at place.entrance set IsTold found
    further_by found led number = (
      λ has. let into = (led number).0 has in (into.0, goes_into number into.1.0 into.1.1 into.1.2.0 into.1.2.1),
      λ goes. (led number).1 (goes.0, goes_from goes.1.0 number goes.1.1 goes.1.2),
    )

  -- by all keys of a phase
  pub further_into : (set : StateSet) (phase : ℕ) (living : StateSet) → AreLivingBy searched line choices (numbered_of searched place) table (IsInPhase phase) living
      → (found : StateSet) → ((number : ℕ) → HasState found number ↔ LeadsInto searched.machine set phase living number)
      → AreGoingFurther searched line choices table place.at place.entrance set (IsInPhase phase) found
  further_into set phase living are found led = further_by set phase living (IsInPhase phase) (λ key told. told) are found led
