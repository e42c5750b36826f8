-- The fronts of a place gone over letter by letter: what is left to those that take so many letters is put into the table, or is left to those
-- that take one more; so in the end each key of each phase was spread.
use Rattle.std.proofs.Common.{◌≡◌, ◌⊎◌, ◌↔◌, inl, inr, ℕ, ◌+◌, ◌<◌, ◌≤◌, ◌++◌, ◌∷◌, [], Option, Some, None, List, length, set, All, refl, sym, ap, subst, ◌∙◌, arith}
use Rattle.std.proofs.lemmas.Bool.{cases_eq, cases_lt}
use Rattle.std.proofs.lemmas.List.{get_or-set_other, get_or-set_same, get_or_append_left, get_or_at, length-append, length-set}
use Rattle.std.proofs.lemmas.List.Elements.{All-get_or, All-push, All-set}
use Rattle.segmentation_definitions.specs.Listings.{Key}
use Rattle.phase_automaton.specs.Automata.{IsStateIn, next_state}
use Rattle.phase_automaton.proofs.NumberedStates.{state_after-push}
use Rattle.annotated_trie.specs.AlikePhases.{IsAlike}
use Rattle.search_frames.specs.declared.configuration.Configuration.{Configuration}
use Rattle.search_frames.specs.declared.frame.TheConstants.{NODES_OF_FRAME}
use Rattle.search_frames.specs.Configurations.{NumberedConfiguration, rules_in}
use Rattle.search_frames.specs.Frames.{IsConfigurationIn, numbered_of}
use Rattle.search_frames.specs.LetterTests.{MayLeadTo}
use Rattle.search_frames.proofs.AheadTests.{begins_if_stands, near_if_stands}
use Rattle.search_frames.proofs.PossibleKeys.{possible_phase}
use Rattle.summary_chart.specs.declared.alike.AlikeFront.{AlikeFront}
use Rattle.summary_chart.specs.declared.site.Front.{Front}
use Rattle.summary_chart.specs.declared.site.SiteAhead.{SiteAhead}
use Rattle.summary_chart.specs.declared.state_set.StateSet.{StateSet}
use Rattle.summary_chart.specs.declared.table.Table.{Table}
use Rattle.summary_chart.specs.AlikeFronts.{AreOnwardFronts, DoAlike, DoesAs, front_at}
use Rattle.summary_chart.specs.Fronts.{IsFrontAt, IsNearFront, IsNextFront}
use Rattle.summary_chart.specs.Levels.{AreLevel, DoesAsOne, IsFrontHere, IsLedFront, IsLeftTo, IsSpreadOn, IsUnited, LedFrom, SpreadsOnly}
use Rattle.summary_chart.specs.Onward.{Puts, PutsAt}
use Rattle.summary_chart.specs.Sites.{IsSiteAhead}
use Rattle.summary_chart.specs.Spreading.{EveryKey, IsAtFront, Spreads, place_with}
use Rattle.summary_chart.specs.StateSets.{HasState, IsLedTo}
use Rattle.summary_chart.specs.Summaries.{key_with}
use Rattle.summary_chart.specs.Tables.{IsIn}
use Rattle.summary_chart.specs.Walked.{FitWithLetter, IsFromFront}
use Rattle.summary_chart.proofs.AlikeKeys.{does_alike, front_alike, may_lead_alike}
use Rattle.summary_chart.proofs.AlikeLists.{no_front}
use Rattle.summary_chart.proofs.SpreadKeys.{leads_to_place, led_state, may_if_led, possible_if_led}
use Rattle.summary_chart.proofs.SpreadWalks.{walk_spread}
use Rattle.summary_chart.proofs.Walks.{front_short}

-- ---- fronts that are united

-- what holds of all fronts and of the one that is put to them holds of all then
pub united_all : (here : SiteAhead) (P : AlikeFront → Type 0) (old : List AlikeFront) (one : AlikeFront) (new : List AlikeFront)
    → ((known united : AlikeFront) → P known → DoAlike here.site.lexicon.now here.site.choices.now known.front one.front → united.front ≡ known.front
    → ((to : ℕ) → HasState united.states to ↔ (HasState known.states to ⊎ HasState one.states to)) → P united)
    → P one → All P old → IsUnited here.site.lexicon.now here.site.choices.now old one new → All P new
united_all here P old one new unites is_one all united = elim united [
  | inl pushed ↦ subst (All P) (sym {A = List AlikeFront} pushed) (All-push P old one all is_one)
  | inr (number, one_more, there, alike, is, front, union) ↦
      subst (All P) (sym {A = List AlikeFront} is)
      (All-set P old number one_more (unites (front_at old number) one_more (All-get_or P old number no_front there all) alike front union) all)
]

-- there is one more at most
pub united_few : (here : SiteAhead) (old : List AlikeFront) (one : AlikeFront) (new : List AlikeFront)
    → IsUnited here.site.lexicon.now here.site.choices.now old one new → length new ≤ length old + 1
united_few here old one new united = elim united [
  | inl pushed ↦ (let same = ap {A = List AlikeFront} length pushed in let count = length-append old (one ∷ []) in omega (arith, same, count))
  | inr (number, one_more, there, alike, is, front, union) ↦
      (let same = ap {A = List AlikeFront} length is in let count = length-set old number one_more in omega (arith, same, count))
]

-- ---- what is left

module _ (here : SiteAhead) (states : StateSet) where
  -- where a key leads on to is in the table, or is left to the fronts from this number on, or to the longer ones
  abbrev pub AreLeft : List AlikeFront → ℕ → List AlikeFront → Table → Type 0
  AreLeft fronts from longer table = (key : Key) (next : Configuration) → LedFrom here states key next
      → IsIn table next ⊎ (IsLeftTo here fronts from key next ⊎ IsLeftTo here longer 0 key next)

  -- the fronts so far were gone over
  pub record IsGoneOver (taken : ℕ) (fronts : List AlikeFront) (number : ℕ) (longer : List AlikeFront) (old new : Table) : Type 0 where
    pub left : AreLeft fronts number longer new
    pub each : All (λ (it : AlikeFront). it.front.taken ≡ taken + 1) longer
    pub led : All (IsLedFront here states) longer
    pub only : SpreadsOnly here states old new

module _ (here : SiteAhead) (is : IsSiteAhead here) where
  abbrev stands : NumberedConfiguration
  stands = numbered_of here.site.lexicon.now here.site.place.now

  abbrev Does : Front → ℕ → Type 0
  Does = DoesAs here.site.lexicon.now here.site.line.now here.site.choices.now stands

  -- ---- a front that is one letter longer

  module _ (one : AlikeFront) (own : IsFrontHere here one) (longer : Front)
      (next : IsNearFront here.site.lexicon.now here.site.line.now stands one.front.phase here.ahead.limit (one.front.taken + 1) longer) where
    longer_does : (phase : ℕ) → DoesAsOne here one phase → Does longer phase
    longer_does phase does = record {
      begins = does.begins;
      leads = subst (λ (taken : ℕ). IsFrontAt here.site.lexicon.now here.site.line.now stands phase taken longer.node) (sym next.taken_is)
          (front_alike here.site.lexicon.now here.site.line.now here.site.choices.now stands is.site.searched one.front one.front.phase phase own.own does
          (one.front.taken + 1) longer.node (omega arith) next.is);
      alike = subst (λ (first : ℕ). (phase ≡ first) ⊎ ((here.site.choices.now ≡ []) × IsAlike (rules_in here.site.lexicon.now) first phase)) (sym next.phase_is) does.alike;
    }

    pub longer_here : IsFrontHere here (record { front = longer; states = one.states })
    longer_here = record {
      own = subst (Does longer) (sym next.phase_is) (longer_does one.front.phase own.own);
      near = (let close = next.near in let taken = next.taken_is in omega (arith, close, taken));
    }

    pub longer_led : (states : StateSet) → IsLedFront here states one → IsLedFront here states (record { front = longer; states = one.states })
    longer_led states led to has = (let (phase, does, by) = led to has in (phase, longer_does phase does, by))

  -- ---- what holds of the fronts that are united

  pub united_here : (old : List AlikeFront) (one : AlikeFront) (new : List AlikeFront) → IsFrontHere here one → All (IsFrontHere here) old
      → IsUnited here.site.lexicon.now here.site.choices.now old one new → All (IsFrontHere here) new
  united_here old one new = united_all here (IsFrontHere here) old one new (λ known united is_known alike same union. record {
    own = subst (λ (front : Front). Does front front.phase) (sym same) is_known.own;
    near = subst (λ (front : Front). here.site.place.now.at + front.taken ≤ here.ahead.limit) (sym same) is_known.near;
  })

  pub united_taken : (taken : ℕ) (old : List AlikeFront) (one : AlikeFront) (new : List AlikeFront) → one.front.taken ≡ taken
      → All (λ (it : AlikeFront). it.front.taken ≡ taken) old
      → IsUnited here.site.lexicon.now here.site.choices.now old one new → All (λ (it : AlikeFront). it.front.taken ≡ taken) new
  united_taken taken old one new = united_all here (λ (it : AlikeFront). it.front.taken ≡ taken) old one new
      (λ known united is_known alike same union. ap (λ (front : Front). front.taken) same ∙ is_known)

  pub united_led : (states : StateSet) (old : List AlikeFront) (one : AlikeFront) (new : List AlikeFront) → IsLedFront here states one
      → All (IsLedFront here states) old → IsUnited here.site.lexicon.now here.site.choices.now old one new → All (IsLedFront here states) new
  united_led states old one new led_one = united_all here (IsLedFront here states) old one new (λ known united led_known alike same union to has.
      elim ((union to).0 has) [
        | inl had ↦ (let (phase, does, by) = led_known to had in (phase, subst (λ (front : Front). Does front phase) (sym same) does, by))
        | inr put ↦
            let (phase, does, by) = led_one to put in (
              phase,
              subst (λ (front : Front). Does front phase) (sym same)
                  (does_alike here.site.lexicon.now here.site.line.now here.site.choices.now stands known.front one.front phase alike does),
              by,
            )
      ]) led_one

  -- ---- what is left to fronts

  module _ (key : Key) (next : Configuration) where
    -- what was left to those before
    pub left_before : (old : List AlikeFront) (one : AlikeFront) (new : List AlikeFront) → IsUnited here.site.lexicon.now here.site.choices.now old one new
        → IsLeftTo here old 0 key next → IsLeftTo here new 0 key next
    left_before old one new united left = elim united [
      | inl pushed ↦ subst (λ (fronts : List AlikeFront). IsLeftTo here fronts 0 key next) (sym {A = List AlikeFront} pushed)
          (let there = left.there in let count = length-append old (one ∷ []) in
          let same = get_or_append_left old (one ∷ []) no_front left.number there in
          moved left (old ++ one ∷ []) left.number (omega (arith, there, count)) (ap (λ (it : AlikeFront). it.front) same)
          (λ to has. subst (λ (it : AlikeFront). HasState it.states to) (sym same) has))
      | inr (number, one_more, there, alike, is_set, front, union) ↦ subst (λ (fronts : List AlikeFront). IsLeftTo here fronts 0 key next) (sym {A = List AlikeFront} is_set)
          (let count = length-set old number one_more in
          let low = left.there in
          elim (cases_eq left.number number) [
            | inl same ↦
                let put = get_or-set_same old number one_more no_front there in
                moved left (set old number one_more) number (omega (arith, there, count))
                (ap (λ (it : AlikeFront). it.front) put ∙ front ∙ ap (λ (n : ℕ). (front_at old n).front) (sym same))
                (λ to has. subst (λ (it : AlikeFront). HasState it.states to) (sym put)
                ((union to).1 (inl (subst (λ (n : ℕ). HasState (front_at old n).states to) same has))))
            | inr apart ↦
                let was = get_or-set_other old number left.number one_more no_front apart in
                moved left (set old number one_more) left.number (omega (arith, low, count)) (ap (λ (it : AlikeFront). it.front) was)
                (λ to has. subst (λ (it : AlikeFront). HasState it.states to) (sym was) has)
          ])
    ]
      where
        -- to one with the same front, which has its states
        moved : {fronts : List AlikeFront} {from : ℕ} (left : IsLeftTo here fronts from key next) (others : List AlikeFront) (number : ℕ) → number < length others
            → (front_at others number).front ≡ (front_at fronts left.number).front
            → ((to : ℕ) → HasState (front_at fronts left.number).states to → HasState (front_at others number).states to) → IsLeftTo here others 0 key next
        moved left others number low same states = record {
          number = number;
          above = omega arith;
          there = low;
          longer = subst (λ (front : Front). front.taken ≤ key.taken) (sym same) left.longer;
          does = subst (λ (front : Front). Does front key.phase) (sym same) left.does;
          to = left.to;
          is = left.is;
          has = states left.to left.has;
        }

    -- what is left to the one that is put to them
    pub left_to_one : (old : List AlikeFront) (one : AlikeFront) (new : List AlikeFront) → IsUnited here.site.lexicon.now here.site.choices.now old one new
        → one.front.taken ≤ key.taken → DoesAsOne here one key.phase → (to : ℕ) → next.state ≡ Some to → HasState one.states to → IsLeftTo here new 0 key next
    left_to_one old one new united longer does to is_to has = elim united [
      | inl pushed ↦ subst (λ (fronts : List AlikeFront). IsLeftTo here fronts 0 key next) (sym {A = List AlikeFront} pushed)
          (let count = length-append old (one ∷ []) in
          let last = get_or_at old one [] no_front (length old) refl in
          record {
            number = length old;
            above = omega arith;
            there = omega (arith, count);
            longer = subst (λ (it : AlikeFront). it.front.taken ≤ key.taken) (sym last) longer;
            does = subst (λ (it : AlikeFront). Does it.front key.phase) (sym last) does;
            to = to;
            is = is_to;
            has = subst (λ (it : AlikeFront). HasState it.states to) (sym last) has;
          })
      | inr (number, one_more, there, alike, is_set, front, union) ↦ subst (λ (fronts : List AlikeFront). IsLeftTo here fronts 0 key next) (sym {A = List AlikeFront} is_set)
          (let count = length-set old number one_more in
          let put = get_or-set_same old number one_more no_front there in
          let same = ap (λ (it : AlikeFront). it.front) put ∙ front in
          record {
            number = number;
            above = omega arith;
            there = omega (arith, there, count);
            longer = subst (λ (it : Front). it.taken ≤ key.taken) (sym same) (subst (λ (taken : ℕ). taken ≤ key.taken) (sym alike.taken) longer);
            does = subst (λ (it : Front). Does it key.phase) (sym same)
                (does_alike here.site.lexicon.now here.site.line.now here.site.choices.now stands (front_at old number).front one.front key.phase alike does);
            to = to;
            is = is_to;
            has = subst (λ (it : AlikeFront). HasState it.states to) (sym put) ((union to).1 (inr has));
          })
    ]

  -- ---- keys of a front

  module _ (states : StateSet) where
    -- where a key leads on to from a state of the set, it may lead on to
    may_lead_to : (key : Key) (next : Configuration) → LedFrom here states key next
        → MayLeadTo here.site.lexicon.now here.site.line.now here.site.choices.now stands key next.at next.entrance
    may_lead_to key next led = record {
      may = may_if_led here.site.lexicon.now here.site.line.now here.site.choices.now here.site.place.now states key next led;
      at_is = ap (λ (s : NumberedConfiguration). s.at) led.2.is;
      entrance_is = ap (λ (s : NumberedConfiguration). s.entrance) led.2.is;
      within = led.2.within.letters;
      over = led.2.within.over;
    }

    -- what a key leads on to is put by the same key of the front's phase, if forms of its phase do what those of that do
    put_by_own : (one : AlikeFront) → IsFrontHere here one → (key : Key) (next : Configuration) → LedFrom here states key next → DoesAsOne here one key.phase
        → one.front.taken ≤ key.taken → (to : ℕ) → next.state ≡ Some to → HasState one.states to
        → PutsAt here.site.lexicon.now here.site.line.now here.site.choices.now stands one.states (key_with one.front.phase key.taken key.rule) next
    put_by_own one own key next led does longer to is_to has = record {
      leads = may_lead_alike here.site.lexicon.now here.site.line.now here.site.choices.now stands is.site.searched one.front key.phase one.front.phase does own.own key refl longer
          next.at next.entrance (may_lead_to key next led);
      number = to;
      has = has;
      is = is_to;
    }

    -- the states are those of the machine
    led_within : (phase to : ℕ) → IsLedTo here.site.lexicon.now.machine states phase to → to < length here.site.lexicon.now.machine.states
    led_within phase to (from, (low, has), goes) =
        let machine = here.site.lexicon.now.machine in
        let recognizes = is.site.searched.recognizes in
        let (phases, after) = recognizes.reached from low in
        let there = state_after-push machine phases phase ∙ ap (λ (state : Option ℕ). next_state machine state phase) after ∙ goes in
        subst (IsStateIn machine) there (recognizes.within (phases ++ phase ∷ []))

    -- where a key of the front's phase may lead on to, with a state that stands with the front, some key leads on to from a state of the set
    led_by_front : (one : AlikeFront) → IsFrontHere here one → IsLedFront here states one → (key : Key) → key.phase ≡ one.front.phase → one.front.taken ≤ key.taken
        → (next : Configuration) → IsConfigurationIn here.site.lexicon.now here.site.line.now next
        → PutsAt here.site.lexicon.now here.site.line.now here.site.choices.now stands one.states key next
        → (other : Key) × LedFrom here states other next
    led_by_front one own led key told longer next within put =
        let (phase, does, (from, state, goes)) = led put.number put.has in
        let as_phase = key_with phase key.taken key.rule in
        let may = may_lead_alike here.site.lexicon.now here.site.line.now here.site.choices.now stands is.site.searched one.front one.front.phase phase own.own does key told longer
        next.at next.entrance put.leads in (
          as_phase,
          (
            from,
            state,
            leads_to_place here.site.lexicon.now here.site.line.now here.site.choices.now here.site.place.now states as_phase next.at next.entrance may from put.number next within
                refl refl put.is goes,
          ),
        )

    -- so all that is put into the table by keys of the front is so
    pub front_only : (one : AlikeFront) → IsFrontHere here one → IsLedFront here states one → (old new : Table)
        → Puts here.site.lexicon.now here.site.line.now here.site.choices.now stands one.states (IsAtFront one.front.phase one.front.taken) old new
        → SpreadsOnly here states old new
    front_only one own led old new puts = record {
      keeps = puts.keeps;
      only = λ place within there. elim (puts.only place within there) [
        | inl had ↦ inl had
        | inr (key, told, put) ↦ inr (led_by_front one own led key told.0 (let same = told.1 in omega (arith, same)) place within put)
      ];
    }

    -- nothing is put, and one thing after another
    pub none_only : (table : Table) → SpreadsOnly here states table table
    none_only table = record { keeps = λ place there. there; only = λ place within there. inl there }

    pub only_both : (old mid new : Table) → SpreadsOnly here states old mid → SpreadsOnly here states mid new → SpreadsOnly here states old new
    only_both old mid new first second = record {
      keeps = λ place there. second.keeps place (first.keeps place there);
      only = λ place within there. elim (second.only place within there) [
        | inl before ↦ first.only place within before
        | inr now ↦ inr now
      ];
    }

    -- ---- one front after another

    pub first_left : (taken : ℕ) (table : Table) (fronts longer : List AlikeFront) → AreLevel here states taken table fronts → AreLeft here states fronts 0 longer table
    first_left taken table fronts longer level key next led = elim (level.all key next led) [
      | inl there ↦ inl there
      | inr left ↦ inr (inl left)
    ]

    pub last_left : (fronts : List AlikeFront) (from : ℕ) (longer : List AlikeFront) (table : Table) → length fronts ≤ from → AreLeft here states fronts from longer table
        → (key : Key) (next : Configuration) → LedFrom here states key next → IsIn table next ⊎ IsLeftTo here longer 0 key next
    last_left fronts from longer table enough left key next led = elim (left key next led) [
      | inl there ↦ inl there
      | inr either ↦ elim either [
        | inl to ↦ (let above = to.above in let low = to.there in absurd (omega (arith, above, low, enough)))
        | inr to ↦ inr to
      ]
    ]

    module _ (fronts : List AlikeFront) (number : ℕ) (one : AlikeFront) (is_one : one ≡ front_at fronts number) (longer more : List AlikeFront) (old new : Table) where
      -- one front is gone over: what was left to it is there, or is left to the longer ones
      gone_over : ((place : Configuration) → IsIn old place → IsIn new place)
          → ((key : Key) (next : Configuration) → IsLeftTo here longer 0 key next → IsLeftTo here more 0 key next)
          → ((key : Key) (next : Configuration) → LedFrom here states key next → DoesAsOne here one key.phase → one.front.taken ≤ key.taken
          → (to : ℕ) → next.state ≡ Some to → HasState one.states to → IsIn new next ⊎ IsLeftTo here more 0 key next)
          → AreLeft here states fronts number longer old → AreLeft here states fronts (number + 1) more new
      gone_over keeps stays rest left key next led = elim (left key next led) [
        | inl there ↦ inl (keeps next there)
        | inr either ↦ elim either [
          | inr to ↦ inr (inr (stays key next to))
          | inl to ↦ elim (cases_eq to.number number) [
            | inr apart ↦
                let above = to.above in
                let after : number + 1 ≤ to.number = omega (arith, above, apart) in
                inr (inl (record { number = to.number; above = after; there = to.there; longer = to.longer; does = to.does; to = to.to; is = to.is; has = to.has }))
            | inl same ↦
                let it : front_at fronts to.number ≡ one = ap (front_at fronts) same ∙ sym is_one in
                elim (rest key next led (subst (λ (f : AlikeFront). DoesAsOne here f key.phase) it to.does) (subst (λ (f : AlikeFront). f.front.taken ≤ key.taken) it to.longer)
                to.to to.is (subst (λ (f : AlikeFront). HasState f.states to.to) it to.has)) [
                  | inl there ↦ inl there
                  | inr after ↦ inr (inr after)
                ]
          ]
        ]
      ]

    module _ (fronts : List AlikeFront) (number : ℕ) (one : AlikeFront) (is_one : one ≡ front_at fronts number) (own : IsFrontHere here one) (longer : List AlikeFront)
        (old : Table) where
      -- the memo has all of it
      pub known_gone : Puts here.site.lexicon.now here.site.line.now here.site.choices.now stands one.states (IsFromFront one.front.phase one.front.taken) old old
          → AreLeft here states fronts number longer old → AreLeft here states fronts (number + 1) longer old
      known_gone puts = gone_over fronts number one is_one longer longer old old (λ place there. there) (λ key next to. to)
          (λ key next led does longer_key to is_to has.
          inl (puts.adds (key_with one.front.phase key.taken key.rule) next (refl, longer_key) (put_by_own one own key next led does longer_key to is_to has)))

      module _ (new : Table)
          (puts : Puts here.site.lexicon.now here.site.line.now here.site.choices.now stands one.states (IsAtFront one.front.phase one.front.taken) old new) where
        -- no form goes on from it
        pub ended_gone : IsNextFront here.site.lexicon.now here.site.line.now stands one.front.phase here.ahead.limit (one.front.taken + 1) None
            → AreLeft here states fronts number longer old → AreLeft here states fronts (number + 1) longer new
        ended_gone none = gone_over fronts number one is_one longer longer old new puts.keeps (λ key next to. to)
            (λ key next led does longer_key to is_to has.
            let put = put_by_own one own key next led does longer_key to is_to has in
            let own_key = key_with one.front.phase key.taken key.rule in
            let stood = put.leads.may.stands in
            let near = near_if_stands here.site.lexicon.now here.site.line.now here.site.choices.now stands own_key here.ahead is.ahead stood in
            let short = none own_key (record { number = stood.number; within = stood.within; form = stood.form }) refl near in
            inl (puts.adds own_key next (refl, (omega (arith, short, longer_key))) put))

        -- the front after one letter more is put to the longer ones
        pub longer_gone : (front : Front) (more : List AlikeFront)
            → IsNearFront here.site.lexicon.now here.site.line.now stands one.front.phase here.ahead.limit (one.front.taken + 1) front
            → IsUnited here.site.lexicon.now here.site.choices.now longer (record { front = front; states = one.states }) more
            → AreLeft here states fronts number longer old → AreLeft here states fronts (number + 1) more new
        longer_gone front more near united = gone_over fronts number one is_one longer more old new puts.keeps
            (λ key next to. left_before key next longer (record { front = front; states = one.states }) more united to)
            (λ key next led does longer_key to is_to has.
            elim (cases_lt one.front.taken key.taken) [
              | inl after ↦ inr (left_to_one key next longer (record { front = front; states = one.states }) more united
                  (let taken = near.taken_is in omega (arith, after, taken)) (longer_does one own front near key.phase does) to is_to has)
              | inr not_after ↦
                  inl (puts.adds (key_with one.front.phase key.taken key.rule) next (refl, (omega (arith, longer_key, not_after)))
                  (put_by_own one own key next led does longer_key to is_to has))
            ])

    -- ---- the first level and the last

    -- the fronts that take no letter
    pub first_level : (fronts : List AlikeFront) (table : Table)
        → AreOnwardFronts here.site.lexicon.now here.site.line.now here.site.choices.now stands states (length (rules_in here.site.lexicon.now).names) fronts
        → AreLevel here states 0 table fronts
    first_level fronts table are = record {
      each = λ number other low. (are.each number other low).first.taken;
      led = λ number other low to has. (let (phase, covered, by) = (are.each number other low).only to has in (phase, covered.does, by));
      all = λ key next led.
          let searched = here.site.lexicon.now in
          let line = here.site.line.now in
          let choices = here.site.choices.now in
          let place = here.site.place.now in
          let (number, state, leads) = led in
          let possible = possible_if_led searched line choices place states key next led in
          let begins = begins_if_stands searched line choices stands key leads.leads_on.stands in
          let (to, goes, is_to) = led_state searched line choices place states key number next leads (next_state searched.machine (Some number) key.phase) refl in
          let (at, low, covered) = are.all key to (possible_phase searched is.site.searched line stands key possible) possible begins (number, state, goes) in
          let none = (All-get_or (λ (it : AlikeFront). it.front.taken ≡ 0) fronts at no_front low (λ number other low. (are.each number other low).first.taken)) in
          inr (record {
            number = at;
            above = omega arith;
            there = low;
            longer = omega (arith, none);
            does = covered.does;
            to = to;
            is = is_to;
            has = covered.states to (number, state, goes);
          });
    }

    pub first_here : (fronts : List AlikeFront)
        → AreOnwardFronts here.site.lexicon.now here.site.line.now here.site.choices.now stands states (length (rules_in here.site.lexicon.now).names) fronts
        → All (IsFrontHere here) fronts
    first_here fronts are number other low =
        let one = are.each number other low in
        record { own = one.first.own; near = (let none = one.first.taken in let from = is.ahead.low in omega (arith, none, from)) }

    -- a form has fewer letters than a frame has nodes
    pub no_level : (fronts : List AlikeFront) (taken : ℕ) (table : Table) → NODES_OF_FRAME ≤ taken → All (IsFrontHere here) fronts → AreLevel here states taken table fronts
        → length fronts ≡ 0
    no_level fronts taken table past are level = elim (cases_lt 0 (length fronts)) [
      | inl some ↦
          let front = (front_at fronts 0).front in
          let own = All-get_or (IsFrontHere here) fronts 0 no_front some are in
          let count = All-get_or (λ (it : AlikeFront). it.front.taken ≡ taken) fronts 0 no_front some level.each in
          let short = front_short here.site.lexicon.now is.site.searched here.site.line.now stands front.phase here.ahead.limit front.taken front.node own.own.leads in
          absurd (omega (arith, short, count, past))
      | inr none ↦ omega (arith, none)
    ]

    -- where nothing is left, all was spread
    pub level_spreads : (fronts : List AlikeFront) (taken : ℕ) (old new : Table) → length fronts ≡ 0 → AreLevel here states taken new fronts → SpreadsOnly here states old new
        → Spreads here.site.lexicon.now here.site.line.now here.site.choices.now here.site.place.now.at here.site.place.now.entrance states EveryKey old new
    level_spreads fronts taken old new none level only = record {
      keeps = only.keeps;
      adds = λ key next told led. elim (level.all key next led) [
        | inl there ↦ there
        | inr left ↦ (let low = left.there in absurd (omega (arith, low, none)))
      ];
      only = λ place within there. elim (only.only place within there) [
        | inl had ↦ inl had
        | inr (key, led) ↦ inr (key, tt, led)
      ];
    }

    -- then what is met on a walk on from a front was spread with its states
    pub spread_on : (old new : Table) (one : AlikeFront) → IsFrontHere here one → IsLedFront here states one → FitWithLetter here
        → Spreads here.site.lexicon.now here.site.line.now here.site.choices.now here.site.place.now.at here.site.place.now.entrance states EveryKey old new
        → IsSpreadOn here new one
    spread_on old new one own led fits spreads some from walks =
        walk_spread here is one.front from own.own.leads some walks one.states new own.own.begins fits
        (λ key same longer at entrance number may has.
        let place = place_with at entrance number in
        let (phase, does, by) = led number has in
        let put : PutsAt here.site.lexicon.now here.site.line.now here.site.choices.now stands one.states key place =
        record { leads = may; number = number; has = has; is = refl } in
        let within : IsConfigurationIn here.site.lexicon.now here.site.line.now place =
        record { letters = may.within; over = may.over; state_in = led_within phase number by } in
        let (other, leads) = led_by_front one own led key same longer place within put in
        spreads.adds other place tt leads)
