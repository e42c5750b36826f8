-- Ways are appended in the falling order of their keys: phase by phase downwards, in a phase the shortest fronts first, and after a front the
-- rules downwards and then no change. What may lead on or end the line after a front is no change, or a rule that begins with the next letter.
use Rattle.std.proofs.Common.{◌≡◌, ◌≢◌, ◌⊎◌, inl, inr, ℕ, ◌+◌, ◌-◌, ◌*◌, ◌<◌, ◌≤◌, ◌==◌, Bool, true, Option, Some, None, List, [], ◌∷◌, length, drop, get_or, Contains, refl, sym, ◌∙◌, ap, subst, arith}
use Rattle.std.specs.List.{filter}
use Rattle.std.specs.Ordering.{nat_cmp}
use Rattle.std.specs.List.Sorted.{IsStrictlySortedBy}
use Rattle.std.specs.declared.cmp.Ordering.TheVariants.{Less}
use Rattle.std.proofs.lemmas.Bool.{cases_lt, cases_Bool, true≢false}
use Rattle.std.proofs.lemmas.List.{drop_more, drop_all, length-drop, get_or-drop}
use Rattle.std.proofs.lemmas.List.Elements.{All-contains, All-from_get_or, filter_passes}
use Rattle.std.proofs.lemmas.Map.Keys.{below_from_sorted}
use Rattle.list_laws.proofs.Sorted.{not_Contains-nil, Contains-cons_cases, Contains-first, Contains-later}
use Rattle.text_definitions.specs.Lines.{Line}
use Rattle.lexicon_definitions.specs.Tries.{row_of}
use Rattle.lexicon_definitions.specs.declared.limits.TheConstants.{MOST_RULE_LETTERS}
use Rattle.segmentation_definitions.specs.Items.{Choice}
use Rattle.segmentation_definitions.specs.Listings.{Key, compare_keys}
use Rattle.answer_paths.specs.Following.{MayStand}
use Rattle.phase_automaton.specs.Automata.{StateMachine}
use Rattle.annotated_trie.specs.Choices.{choices_of, choices_with, with_first}
use Rattle.annotated_trie.specs.Searched.{SearchedLexicon, IsSearchedLexicon}
use Rattle.search_frames.specs.declared.ahead.Ahead.{Ahead}
use Rattle.search_frames.specs.declared.frame.TheConstants.{NODES_OF_FRAME}
use Rattle.search_frames.specs.declared.way.Way.{Way}
use Rattle.search_frames.specs.Ahead.{IsAhead, MayBegin}
use Rattle.search_frames.specs.Configurations.{NumberedConfiguration, IsPossible, rules_in}
use Rattle.search_frames.specs.LetterTests.{MayNeither}
use Rattle.search_frames.proofs.StepKeys.{less_from_before}
use Rattle.search_frames.proofs.GroupedRules.{choice_of_group}
use Rattle.search_frames.proofs.PossibleKeys.{possible_phase}
use Rattle.search_frames.proofs.AheadTests.{past_limit, not_begun}
use Rattle.summary_chart.specs.declared.site.Front.{Front}
use Rattle.summary_chart.specs.declared.state_set.StateSet.{StateSet}
use Rattle.summary_chart.specs.StateSets.{IsLedTo}
use Rattle.summary_chart.specs.Fronts.{IsFrontAt, IsNearFront, IsNextFront}
use Rattle.summary_chart.specs.Summaries.{key_with, steps_of_front, steps_of_fronts}
use Rattle.summary_chart.specs.PlaceWays.{AppendsFalling}
use Rattle.summary_chart.specs.Spreading.{OnlyKey, IsByRule, IsAtFront, IsInPhase, IsLedByPhase}
use Rattle.summary_chart.proofs.AppendedWays.{append_none, append_same, append_two}
use Rattle.summary_chart.proofs.FrontKeys.{filter_keeps, front_node, ends_if_unchanged, among_written, letters_left, choice_if_possible}
use Rattle.summary_chart.proofs.SummarySteps.{fewer_within}
use Rattle.summary_chart.proofs.VisitedKeys.{below_or_at}

-- keys of the phase that take fewer letters
abbrev pub IsBeforeFront : ℕ → ℕ → Key → Type 0
IsBeforeFront phase taken key = (key.phase ≡ phase) × (key.taken < taken)

-- keys of this phase and later ones, where some state of the set leads to the key's phase
abbrev pub IsLedFrom : StateMachine → StateSet → ℕ → Key → Type 0
IsLedFrom machine set phase key = (phase ≤ key.phase) × IsLedByPhase machine set key

-- the ways of the fronts before the next one are appended, and where there is none those of the whole phase
abbrev pub HasListed : SearchedLexicon → Line → List Choice → NumberedConfiguration → (Key → Type 0) → ℕ → ℕ → Option Front → List Way → List Way → Type 0
HasListed searched line choices here IsSought phase limit None old new = AppendsFalling searched line choices here IsSought (IsInPhase phase) old new
HasListed searched line choices here IsSought phase limit (Some front) old new =
    IsNearFront searched line here phase limit front.taken front × AppendsFalling searched line choices here IsSought (IsBeforeFront phase front.taken) old new

-- the steps of a phase so far
abbrev pub HasSpent : ℕ → ℕ → Option Front → ℕ → Type 0
HasSpent most start None now = now ≤ start + steps_of_fronts most
HasSpent most start (Some front) now = now ≤ start + MOST_RULE_LETTERS + front.taken * (1 + steps_of_front most)

-- how many fronts are left up to the limit at most
abbrev pub fronts_left : ℕ → ℕ → Option Front → ℕ
fronts_left at limit None = 0
fronts_left at limit (Some front) = 1 + (limit - (at + front.taken))

-- what is this number or above it is above it or is this one
above_or_at : (low n : ℕ) → low ≤ n → (low + 1 ≤ n) ⊎ (n ≡ low)
above_or_at low n from = elim (cases_lt low n) [
  | inl above ↦ inl (omega (arith, above))
  | inr at ↦ inr (omega (arith, from, at))
]

-- so many fronts at most take no more steps than a phase may
pub spent_within : (most start now taken : ℕ) → taken ≤ NODES_OF_FRAME → now ≤ start + MOST_RULE_LETTERS + taken * (1 + steps_of_front most)
    → now ≤ start + steps_of_fronts most
spent_within most start now taken few spent = (let all = fewer_within taken NODES_OF_FRAME (1 + steps_of_front most) few in omega (arith, spent, all))

-- of some rules, one that is not missing among those that begin with the letter is among them
among_or_not : (firsts rules : List ℕ) (letter rule : ℕ) → Contains rules rule → ((Contains (with_first firsts letter rules) rule → ⊥) → ⊥)
    → Contains (with_first firsts letter rules) rule
among_or_not firsts rules letter rule among not_missing =
    let begins : ℕ → Bool = λ number. get_or firsts (number - 1) 0 == letter in
    elim (cases_Bool (begins rule)) [
      | inl passes ↦ filter_keeps begins rules rule among passes
      | inr fails ↦ absurd (not_missing (λ there. true≢false (sym (All-contains (λ x. begins x ≡ true) (filter begins rules) rule (filter_passes begins rules) there) ∙ fails)))
    ]

module _ (searched : SearchedLexicon) (line : Line) (choices : List Choice) (here : NumberedConfiguration) (IsSought : Key → Type 0) where
  -- ---- one rule after another

  module _ (phase taken : ℕ) (rules : List ℕ) (rises : IsStrictlySortedBy nat_cmp rules) where
    pub append_no_rule : (count : ℕ) → length rules ≤ count → (ways : List Way)
        → AppendsFalling searched line choices here IsSought (IsByRule phase taken (drop count rules)) ways ways
    append_no_rule count none ways =
        append_none searched line choices here IsSought (IsByRule phase taken (drop count rules)) ways
        (λ key told possible may sought. not_Contains-nil key.rule (subst (λ (some : List ℕ). Contains some key.rule) (drop_all count rules none) told.2))

    -- the rules so far are above the next
    later_above : (count rule later : ℕ) → rule ≡ get_or rules count rule → Contains (drop (count + 1) rules) later → rule < later
    later_above count rule later is among =
        All-contains (λ n. rule < n) (drop (count + 1) rules) later
        (All-from_get_or (λ n. rule < n) (drop (count + 1) rules) rule (λ place within.
        let left = length-drop (count + 1) rules in
        let there = get_or-drop (count + 1) rules place rule in
        let above = below_from_sorted rules count (count + 1 + place) rule rises (omega arith) (omega (arith, within, left)) in
        omega (arith, above, there, is)))
        among

    pub append_rule : (count rule : ℕ) → count < length rules → rule ≡ get_or rules count rule → (old mid new : List Way)
        → AppendsFalling searched line choices here IsSought (IsByRule phase taken (drop (count + 1) rules)) old mid
        → AppendsFalling searched line choices here IsSought (OnlyKey (key_with phase taken rule)) mid new
        → AppendsFalling searched line choices here IsSought (IsByRule phase taken (drop count rules)) old new
    append_rule count rule low is old mid new so_far one =
        let later = drop (count + 1) rules in
        let more : drop count rules ≡ rule ∷ later = drop_more rules count rule low ∙ ap (λ (r : ℕ). r ∷ later) (sym is) in
        append_two searched line choices here IsSought (IsByRule phase taken later) (OnlyKey (key_with phase taken rule)) (IsByRule phase taken (drop count rules))
        old mid new
        (λ key other told same. subst (λ (k : Key). compare_keys k key ≡ Less) (sym same)
        (less_from_before (key_with phase taken rule) key (inr (sym told.0, inr (told.1, later_above count rule key.rule is told.2)))))
        (λ key told possible may. elim (Contains-cons_cases rule later key.rule (subst (λ (some : List ℕ). Contains some key.rule) more told.2)) [
          | inl same ↦ inr (λ i. record { phase = told.0 i; taken = told.1 i; rule = sym same i })
          | inr before ↦ inl (told.0, told.1, before)
        ])
        (λ key told. (told.0, told.1, subst (λ (some : List ℕ). Contains some key.rule) (sym more) (Contains-later rule later key.rule told.2)))
        (λ key same. subst (IsByRule phase taken (drop count rules)) (sym same)
        (refl, refl, subst (λ (some : List ℕ). Contains some rule) (sym more) (Contains-first rule later)))
        so_far one

  -- ---- a front

  module _ (is : IsSearchedLexicon searched) (phase taken node : ℕ) (front : IsFrontAt searched line here phase taken node) where
    -- no form ends there
    pub append_not_unchanged : (ways : List Way) → ((row_of searched.tries.trie.rows node).deltas ≢ [] → ⊥)
        → AppendsFalling searched line choices here IsSought (OnlyKey (key_with phase taken 0)) ways ways
    append_not_unchanged ways unended =
        append_none searched line choices here IsSought (OnlyKey (key_with phase taken 0)) ways
        (λ key same possible may sought. unended (ends_if_unchanged searched is line here phase taken node front (subst (IsPossible searched line here) same possible)))

    -- a key with this front is no change, or has a rule
    by_rule : (key : Key) → IsAtFront phase taken key → key ≡ key_with phase taken key.rule
    by_rule key (same_phase, same_taken) = λ i. record { phase = same_phase i; taken = same_taken i; rule = key.rule }

    -- where it can't stand, it may do neither
    neither : (key : Key) → (MayStand searched.lexicon line choices here.at here.entrance key → ⊥) → MayNeither searched line choices here key
    neither key not_there = record { leads_on = λ leads. not_there leads.stands; ends = λ ends. not_there ends.stands }

    rule_stands : (key : Key) → IsAtFront phase taken key → MayStand searched.lexicon line choices here.at here.entrance key
        → MayStand searched.lexicon line choices here.at here.entrance (key_with phase taken key.rule)
    rule_stands key at stands = subst (MayStand searched.lexicon line choices here.at here.entrance) (by_rule key at) stands

    rule_possible : (key : Key) → IsAtFront phase taken key → IsPossible searched line here key → IsPossible searched line here (key_with phase taken key.rule)
    rule_possible key at possible = subst (IsPossible searched line here) (by_rule key at) possible

    -- no letter is left, so only no change is there
    pub append_without_letter : (old new : List Way) → length line.letters ≤ here.at + taken
        → AppendsFalling searched line choices here IsSought (OnlyKey (key_with phase taken 0)) old new
        → AppendsFalling searched line choices here IsSought (IsAtFront phase taken) old new
    append_without_letter old new none unchanged =
        append_same searched line choices here IsSought (OnlyKey (key_with phase taken 0)) (IsAtFront phase taken) old new
        (λ key at possible may sought. elim (cases_lt 0 key.rule) [
          | inl above ↦ absurd (may (neither key (λ stands.
              let left = letters_left searched is line here phase taken node front choices key.rule above (rule_stands key at stands) in
              omega (arith, left, none))))
          | inr least ↦
              let nothing : key.rule ≡ 0 = omega (arith, least) in
              by_rule key at ∙ ap (key_with phase taken) nothing
        ])
        (λ key same. subst (IsAtFront phase taken) (sym same) (refl, refl))
        unchanged

    -- no key with a rule is looked for, so only no change is
    pub append_passed_over : (old new : List Way)
        → ((key : Key) → IsAtFront phase taken key → 0 < key.rule → IsPossible searched line here key → IsSought key → ⊥)
        → AppendsFalling searched line choices here IsSought (OnlyKey (key_with phase taken 0)) old new
        → AppendsFalling searched line choices here IsSought (IsAtFront phase taken) old new
    append_passed_over old new none unchanged =
        append_same searched line choices here IsSought (OnlyKey (key_with phase taken 0)) (IsAtFront phase taken) old new
        (λ key at possible may sought. elim (cases_lt 0 key.rule) [
          | inl above ↦ absurd (none key at above possible sought)
          | inr least ↦
              let nothing : key.rule ≡ 0 = omega (arith, least) in
              by_rule key at ∙ ap (key_with phase taken) nothing
        ])
        (λ key same. subst (IsAtFront phase taken) (sym same) (refl, refl))
        unchanged

    -- a rule that may do something begins with the next letter
    module _ (letter : ℕ) (next : letter ≡ get_or line.letters (here.at + taken) letter) where
      begins_so : (key : Key) → 0 < key.rule → IsAtFront phase taken key → IsPossible searched line here key
          → (MayNeither searched line choices here key → ⊥) → Contains (choices_with searched.tries node letter) key.rule
      begins_so key above at possible may =
          among_or_not searched.tries.firsts (choices_of searched.tries node) letter key.rule
          (choice_if_possible searched is line here phase taken node front key.rule above (rule_possible key at possible))
          (λ left_out. may (neither key (λ stands. left_out
          (among_written searched is line here phase taken node front choices key.rule above (rule_stands key at stands) letter next (rule_possible key at possible)))))

      -- no change comes before the rules
      above_none : (rule : ℕ) → Contains (choices_with searched.tries node letter) rule → 0 < rule
      above_none rule among =
          (((is.tries.each node (front_node searched is line here phase taken node front)).members rule).0 (choice_of_group searched is node letter rule among)).0

      pub append_with_letter : (old mid new : List Way)
          → AppendsFalling searched line choices here IsSought (IsByRule phase taken (choices_with searched.tries node letter)) old mid
          → AppendsFalling searched line choices here IsSought (OnlyKey (key_with phase taken 0)) mid new
          → AppendsFalling searched line choices here IsSought (IsAtFront phase taken) old new
      append_with_letter old mid new changed unchanged =
          append_two searched line choices here IsSought (IsByRule phase taken (choices_with searched.tries node letter)) (OnlyKey (key_with phase taken 0)) (IsAtFront phase taken)
          old mid new
          (λ key other told same. subst (λ (k : Key). compare_keys k key ≡ Less) (sym same)
          (less_from_before (key_with phase taken 0) key (inr (sym told.0, inr (told.1, above_none key.rule told.2)))))
          (λ key at possible may. elim (cases_lt 0 key.rule) [
            | inl above ↦ inl (at.0, at.1, begins_so key above at possible may)
            | inr least ↦
                let nothing : key.rule ≡ 0 = omega (arith, least) in
                inr (by_rule key at ∙ ap (key_with phase taken) nothing)
          ])
          (λ key told. (told.0, told.1))
          (λ key same. subst (IsAtFront phase taken) (sym same) (refl, refl))
          changed unchanged

  -- ---- one front after another, the shortest first

  module _ (phase : ℕ) where
    pub append_no_front : (ways : List Way) → AppendsFalling searched line choices here IsSought (IsBeforeFront phase 0) ways ways
    append_no_front ways = append_none searched line choices here IsSought (IsBeforeFront phase 0) ways (λ key told possible may sought. omega (arith, told.1))

    pub append_front : (taken : ℕ) (old mid new : List Way) → AppendsFalling searched line choices here IsSought (IsBeforeFront phase taken) old mid
        → AppendsFalling searched line choices here IsSought (IsAtFront phase taken) mid new
        → AppendsFalling searched line choices here IsSought (IsBeforeFront phase (taken + 1)) old new
    append_front taken old mid new so_far one =
        append_two searched line choices here IsSought (IsBeforeFront phase taken) (IsAtFront phase taken) (IsBeforeFront phase (taken + 1)) old mid new
        (λ key other told at. less_from_before other key (inr (at.0 ∙ sym told.0, inl (omega (arith, told.1, at.1)))))
        (λ key told possible may. elim (below_or_at key.taken taken told.1) [
          | inl fewer ↦ inl (told.0, fewer)
          | inr as_many ↦ inr (told.0, as_many)
        ])
        (λ key told. (told.0, omega (arith, told.1)))
        (λ key at. (at.0, omega (arith, at.1)))
        so_far one

    -- no key that may do something goes further than the limit, and none that goes no further takes as many letters
    pub append_all_fronts : (ahead : Ahead) → IsAhead (rules_in searched) line here.at here.entrance ahead → (taken : ℕ)
        → ((key : Key) → IsPossible searched line here key → key.phase ≡ phase → here.at + key.taken ≤ ahead.limit → key.taken < taken)
        → (old new : List Way) → AppendsFalling searched line choices here IsSought (IsBeforeFront phase taken) old new
        → AppendsFalling searched line choices here IsSought (IsInPhase phase) old new
    append_all_fronts ahead is taken all old new so_far =
        append_same searched line choices here IsSought (IsBeforeFront phase taken) (IsInPhase phase) old new
        (λ key same possible may sought. elim (cases_lt ahead.limit (here.at + key.taken)) [
          | inl past ↦ absurd (may (past_limit searched line choices here key ahead is past))
          | inr near ↦ (same, all key possible same (omega (arith, near)))
        ])
        (λ key told. told.0) so_far

    -- the next front, if there is one
    pub list_next : (ahead : Ahead) → IsAhead (rules_in searched) line here.at here.entrance ahead → (taken : ℕ) (next : Option Front)
        → IsNextFront searched line here phase ahead.limit taken next
        → (old new : List Way) → AppendsFalling searched line choices here IsSought (IsBeforeFront phase taken) old new
        → HasListed searched line choices here IsSought phase ahead.limit next old new
    list_next ahead is taken None none old new so_far = append_all_fronts ahead is taken none old new so_far
    list_next ahead is taken (Some front) near old new so_far = (
      subst (λ (n : ℕ). IsNearFront searched line here phase ahead.limit n front) (sym near.taken_is) near,
      subst (λ (n : ℕ). AppendsFalling searched line choices here IsSought (IsBeforeFront phase n) old new) (sym near.taken_is) so_far,
    )

    -- there are not so many fronts that the steps are too many
    pub spend_next : (limit most start now taken : ℕ) (next : Option Front) → IsNextFront searched line here phase limit taken next
        → taken ≤ NODES_OF_FRAME → now ≤ start + MOST_RULE_LETTERS + taken * (1 + steps_of_front most) → HasSpent most start next now
    spend_next limit most start now taken None none few spent = spent_within most start now taken few spent
    spend_next limit most start now taken (Some front) near few spent =
        subst (λ (n : ℕ). now ≤ start + MOST_RULE_LETTERS + n * (1 + steps_of_front most)) (sym near.taken_is) spent

    -- one front more, if there is one, leaves fewer
    pub fewer_left : (limit taken : ℕ) (next : Option Front) → IsNextFront searched line here phase limit (taken + 1) next
        → fronts_left here.at limit next < 1 + (limit - (here.at + taken))
    fewer_left limit taken None none = omega arith
    fewer_left limit taken (Some front) near = omega (arith, near.taken_is, near.near)

  -- ---- one phase after another, the last first

  module _ (set : StateSet) where
    -- there are no more phases
    pub append_no_phase : (count : ℕ) → IsSearchedLexicon searched → length (rules_in searched).names ≤ count → (ways : List Way)
        → AppendsFalling searched line choices here IsSought (IsLedFrom searched.machine set count) ways ways
    append_no_phase count is enough ways =
        append_none searched line choices here IsSought (IsLedFrom searched.machine set count) ways
        (λ key told possible may sought. (let low = possible_phase searched is line here key possible in omega (arith, low, enough, told.0)))

    -- a phase to which some state leads
    pub append_phase : (phase to : ℕ) → IsLedTo searched.machine set phase to → (old mid new : List Way)
        → AppendsFalling searched line choices here IsSought (IsLedFrom searched.machine set (phase + 1)) old mid
        → AppendsFalling searched line choices here IsSought (IsInPhase phase) mid new
        → AppendsFalling searched line choices here IsSought (IsLedFrom searched.machine set phase) old new
    append_phase phase to led old mid new so_far one =
        append_two searched line choices here IsSought (IsLedFrom searched.machine set (phase + 1)) (IsInPhase phase) (IsLedFrom searched.machine set phase) old mid new
        (λ key other told same. less_from_before other key (inl (omega (arith, told.0, same))))
        (λ key told possible may. elim (above_or_at phase key.phase told.0) [
          | inl above ↦ inl (above, told.1)
          | inr at ↦ inr at
        ])
        (λ key told. (omega (arith, told.0), told.1))
        (λ key same. (omega (arith, same), (to, subst (λ (p : ℕ). IsLedTo searched.machine set p to) (sym same) led)))
        so_far one

    -- a phase with no key that is asked for and may do something
    append_empty_phase : (phase : ℕ)
        → ((key : Key) → key.phase ≡ phase → IsLedByPhase searched.machine set key → (MayNeither searched line choices here key → ⊥) → ⊥)
        → (old new : List Way) → AppendsFalling searched line choices here IsSought (IsLedFrom searched.machine set (phase + 1)) old new
        → AppendsFalling searched line choices here IsSought (IsLedFrom searched.machine set phase) old new
    append_empty_phase phase nothing old new so_far =
        append_same searched line choices here IsSought (IsLedFrom searched.machine set (phase + 1)) (IsLedFrom searched.machine set phase) old new
        (λ key told possible may sought. elim (above_or_at phase key.phase told.0) [
          | inl above ↦ (above, told.1)
          | inr at ↦ absurd (nothing key at told.1 may)
        ])
        (λ key told. (omega (arith, told.0), told.1))
        so_far

    -- a phase to which none does
    pub append_dead_phase : (phase : ℕ) → ((number : ℕ) → IsLedTo searched.machine set phase number → ⊥) → (old new : List Way)
        → AppendsFalling searched line choices here IsSought (IsLedFrom searched.machine set (phase + 1)) old new
        → AppendsFalling searched line choices here IsSought (IsLedFrom searched.machine set phase) old new
    append_dead_phase phase dead =
        append_empty_phase phase (λ key at led may. dead led.0 (subst (λ (p : ℕ). IsLedTo searched.machine set p led.0) at led.1))

    -- a phase that may not begin
    pub append_unbegun_phase : (phase : ℕ) → (MayBegin here.entrance phase → ⊥) → (old new : List Way)
        → AppendsFalling searched line choices here IsSought (IsLedFrom searched.machine set (phase + 1)) old new
        → AppendsFalling searched line choices here IsSought (IsLedFrom searched.machine set phase) old new
    append_unbegun_phase phase unbegun =
        append_empty_phase phase (λ key at led may.
        may (not_begun searched line choices here key (λ begins. unbegun (subst (MayBegin here.entrance) at begins))))

    pub append_all_phases : (old new : List Way) → AppendsFalling searched line choices here IsSought (IsLedFrom searched.machine set 0) old new
        → AppendsFalling searched line choices here IsSought (IsLedByPhase searched.machine set) old new
    append_all_phases old new so_far =
        append_same searched line choices here IsSought (IsLedFrom searched.machine set 0) (IsLedByPhase searched.machine set) old new
        (λ key told possible may sought. (omega arith, told)) (λ key told. told.1) so_far
