-- Going over the keys of a place, rule by rule, front by front and phase by phase: what was done by some keys and then by others was done
-- by all of them, and a key that does something is one of a front, a choice there that begins with the next letter, or no change.
use Rattle.std.proofs.Common.{◌≡◌, ◌≢◌, ◌⊎◌, ℕ, ◌+◌, ◌<◌, ◌≤◌, inl, inr, List, [], ◌∷◌, ◌++◌, length, take, get_or, Contains, sym, ap, subst, ◌∙◌, refl, arith}
use Rattle.std.proofs.lemmas.Bool.{cases_lt}
use Rattle.std.proofs.lemmas.List.{take_more, take_all}
use Rattle.std.proofs.lemmas.List.Elements.{Contains-push, Contains-push_cases, Contains-append_left}
use Rattle.text_definitions.specs.Lines.{Line}
use Rattle.lexicon_definitions.specs.Tries.{row_of}
use Rattle.segmentation_definitions.specs.Items.{Choice}
use Rattle.segmentation_definitions.specs.Listings.{Key}
use Rattle.answer_paths.specs.Following.{MayStand}
use Rattle.annotated_trie.specs.Choices.{choices_with}
use Rattle.annotated_trie.specs.Searched.{SearchedLexicon, IsSearchedLexicon}
use Rattle.search_frames.specs.declared.ahead.Ahead.{Ahead}
use Rattle.search_frames.specs.declared.configuration.Configuration.{Configuration}
use Rattle.search_frames.specs.Ahead.{IsAhead}
use Rattle.search_frames.specs.Configurations.{IsPossible, rules_in}
use Rattle.search_frames.specs.Frames.{numbered_of}
use Rattle.search_frames.proofs.PossibleKeys.{possible_phase}
use Rattle.search_frames.proofs.AheadTests.{near_if_stands}
use Rattle.list_laws.proofs.Sorted.{not_Contains-nil}
use Rattle.summary_chart.specs.Fronts.{IsFrontAt, AreFronts}
use Rattle.summary_chart.specs.Summaries.{key_with}
use Rattle.summary_chart.specs.Spreading.{OnlyKey, EveryKey, IsByRule, IsAtFront, IsInPhase}
use Rattle.summary_chart.proofs.FrontKeys.{ends_if_unchanged, among_written, letters_left}

-- what keys of the place do to a value, and which keys do something
pub record Visit (searched : SearchedLexicon) (line : Line) (choices : List Choice) (place : Configuration) (S : Type 0) : Type 1 where
  pub Adds : (Key → Type 0) → S → S → Type 0
  pub Does : Key → Type 0
  pub none : (IsTold : Key → Type 0) (s : S) → ((key : Key) → Does key → IsTold key → ⊥) → Adds IsTold s s
  pub both : (IsFirst IsSecond : Key → Type 0) (s t u : S) → Adds IsFirst s t → Adds IsSecond t u → Adds (λ key. IsFirst key ⊎ IsSecond key) s u
  pub same : (IsFirst IsSecond : Key → Type 0) (s t : S) → ((key : Key) → Does key → IsSecond key → IsFirst key) → ((key : Key) → IsFirst key → IsSecond key)
      → Adds IsFirst s t → Adds IsSecond s t
  pub possible : (key : Key) → Does key → IsPossible searched line (numbered_of searched place) key
  pub stands : (key : Key) → Does key → MayStand searched.lexicon line choices place.at (numbered_of searched place).entrance key

-- keys of the phase that take fewer letters, and keys of earlier phases
abbrev pub IsBelow : ℕ → ℕ → Key → Type 0
IsBelow phase taken key = (key.phase ≡ phase) × (key.taken < taken)

abbrev pub IsEarlier : ℕ → Key → Type 0
IsEarlier phase key = key.phase < phase

-- what is below the next number is below this one or is this one
pub below_or_at : (n low : ℕ) → n < low + 1 → (n < low) ⊎ (n ≡ low)
below_or_at n low less = elim (cases_lt n low) [
  | inl below ↦ inl below
  | inr from ↦ inr (omega (arith, less, from))
]

module _ (searched : SearchedLexicon) (line : Line) (choices : List Choice) (place : Configuration) (S : Type 0)
    (visit : Visit searched line choices place S) where
  -- some keys and then others, told in another way
  pub in_two : (IsFirst IsSecond IsTold : Key → Type 0) (s t u : S) → ((key : Key) → visit.Does key → IsTold key → IsFirst key ⊎ IsSecond key)
      → ((key : Key) → IsFirst key → IsTold key) → ((key : Key) → IsSecond key → IsTold key) → visit.Adds IsFirst s t → visit.Adds IsSecond t u → visit.Adds IsTold s u
  in_two IsFirst IsSecond IsTold s t u either is_first is_second first second =
      visit.same (λ key. IsFirst key ⊎ IsSecond key) IsTold s u either
      (λ key told. elim told [
        | inl one ↦ is_first key one
        | inr other ↦ is_second key other
      ])
      (visit.both IsFirst IsSecond s t u first second)

  -- ---- one rule after another

  module _ (phase taken : ℕ) (rules : List ℕ) where
    pub visit_no_rule : (s : S) → visit.Adds (IsByRule phase taken (take 0 rules)) s s
    visit_no_rule s = visit.none (IsByRule phase taken (take 0 rules)) s (λ key does told. not_Contains-nil key.rule told.2)

    pub visit_rule : (count rule : ℕ) → count < length rules → rule ≡ get_or rules count rule → (s t u : S)
        → visit.Adds (IsByRule phase taken (take count rules)) s t → visit.Adds (OnlyKey (key_with phase taken rule)) t u
        → visit.Adds (IsByRule phase taken (take (count + 1) rules)) s u
    visit_rule count rule low is s t u so_far one =
        let more : take (count + 1) rules ≡ take count rules ++ rule ∷ [] = take_more rules count rule low ∙ ap (λ (r : ℕ). take count rules ++ r ∷ []) (sym is) in
        in_two (IsByRule phase taken (take count rules)) (OnlyKey (key_with phase taken rule)) (IsByRule phase taken (take (count + 1) rules)) s t u
        (λ key does told. elim (Contains-push_cases (take count rules) rule key.rule (subst (λ (some : List ℕ). Contains some key.rule) more told.2)) [
          | inl before ↦ inl (told.0, told.1, before)
          | inr same ↦ inr (λ i. record { phase = told.0 i; taken = told.1 i; rule = sym same i })
        ])
        (λ key told. (told.0, told.1, subst (λ (some : List ℕ). Contains some key.rule) (sym more) (Contains-append_left (take count rules) (rule ∷ []) key.rule told.2)))
        (λ key same. subst (IsByRule phase taken (take (count + 1) rules)) (sym same)
        (refl, refl, subst (λ (some : List ℕ). Contains some rule) (sym more) (Contains-push (take count rules) rule)))
        so_far one

    pub visit_all_rules : (count : ℕ) → length rules ≤ count → (s t : S) → visit.Adds (IsByRule phase taken (take count rules)) s t
        → visit.Adds (IsByRule phase taken rules) s t
    visit_all_rules count enough s t so_far = subst (λ (some : List ℕ). visit.Adds (IsByRule phase taken some) s t) (take_all count rules enough) so_far

  -- ---- a front

  module _ (is : IsSearchedLexicon searched) (phase taken node : ℕ) (front : IsFrontAt searched line (numbered_of searched place) phase taken node) where
    -- no form ends there
    pub visit_not_unchanged : (s : S) → ((row_of searched.tries.trie.rows node).deltas ≢ [] → ⊥) → visit.Adds (OnlyKey (key_with phase taken 0)) s s
    visit_not_unchanged s unended =
        visit.none (OnlyKey (key_with phase taken 0)) s
        (λ key does same. unended (ends_if_unchanged searched is line (numbered_of searched place) phase taken node front
        (subst (IsPossible searched line (numbered_of searched place)) same (visit.possible key does))))

    -- a key with this front is no change, or has a rule
    by_rule : (key : Key) → IsAtFront phase taken key → key ≡ key_with phase taken key.rule
    by_rule key (same_phase, same_taken) = λ i. record { phase = same_phase i; taken = same_taken i; rule = key.rule }

    rule_stands : (key : Key) → visit.Does key → IsAtFront phase taken key
        → MayStand searched.lexicon line choices place.at (numbered_of searched place).entrance (key_with phase taken key.rule)
    rule_stands key does at =
        subst (MayStand searched.lexicon line choices place.at (numbered_of searched place).entrance) (by_rule key at) (visit.stands key does)

    rule_possible : (key : Key) → visit.Does key → IsAtFront phase taken key → IsPossible searched line (numbered_of searched place) (key_with phase taken key.rule)
    rule_possible key does at = subst (IsPossible searched line (numbered_of searched place)) (by_rule key at) (visit.possible key does)

    -- no letter is left, so only no change is there
    pub visit_without_letter : (s t : S) → length line.letters ≤ place.at + taken → visit.Adds (OnlyKey (key_with phase taken 0)) s t
        → visit.Adds (IsAtFront phase taken) s t
    visit_without_letter s t none unchanged =
        visit.same (OnlyKey (key_with phase taken 0)) (IsAtFront phase taken) s t
        (λ key does at. elim (cases_lt 0 key.rule) [
          | inl above ↦
              let left = letters_left searched is line (numbered_of searched place) phase taken node front choices key.rule above (rule_stands key does at) in
              absurd (omega (arith, left, none))
          | inr least ↦
              let nothing : key.rule ≡ 0 = omega (arith, least) in
              by_rule key at ∙ ap (key_with phase taken) nothing
        ])
        (λ key same. subst (IsAtFront phase taken) (sym same) (refl, refl))
        unchanged

    -- no change, and the rules that begin with the next letter
    pub visit_with_letter : (letter : ℕ) (s t u : S) → letter ≡ get_or line.letters (place.at + taken) letter
        → visit.Adds (OnlyKey (key_with phase taken 0)) s t → visit.Adds (IsByRule phase taken (choices_with searched.tries node letter)) t u
        → visit.Adds (IsAtFront phase taken) s u
    visit_with_letter letter s t u next unchanged changed =
        in_two (OnlyKey (key_with phase taken 0)) (IsByRule phase taken (choices_with searched.tries node letter)) (IsAtFront phase taken) s t u
        (λ key does at. elim (cases_lt 0 key.rule) [
          | inl above ↦ inr (
            at.0,
            at.1,
            among_written searched is line (numbered_of searched place) phase taken node front choices key.rule above
                (rule_stands key does at) letter next (rule_possible key does at),
          )
          | inr least ↦
              let nothing : key.rule ≡ 0 = omega (arith, least) in
              inl (by_rule key at ∙ ap (key_with phase taken) nothing)
        ])
        (λ key same. subst (IsAtFront phase taken) (sym same) (refl, refl))
        (λ key told. (told.0, told.1))
        unchanged changed

  -- ---- one front after another

  module _ (phase : ℕ) where
    -- no key that does something goes further than the limit
    pub visit_all_fronts : (ahead : Ahead) → IsAhead (rules_in searched) line place.at (numbered_of searched place).entrance ahead
        → (count : ℕ) (nodes : List ℕ) → length nodes ≤ count → AreFronts searched line (numbered_of searched place) phase ahead.limit nodes
        → (s t : S) → visit.Adds (IsBelow phase count) s t → visit.Adds (IsInPhase phase) s t
    visit_all_fronts ahead is count nodes enough fronts s t so_far =
        visit.same (IsBelow phase count) (IsInPhase phase) s t
        (λ key does told. (
          told,
          (
              let near = near_if_stands searched line choices (numbered_of searched place) key ahead is (visit.stands key does) in
              let low = fronts.all key (visit.possible key does) told near in
              omega (arith, low, enough)
              ),
        ))
        (λ key told. told.0)
        so_far

  -- ---- one phase after another

  pub visit_phase : (phase : ℕ) (s t u : S) → visit.Adds (IsEarlier phase) s t → visit.Adds (IsInPhase phase) t u → visit.Adds (IsEarlier (phase + 1)) s u
  visit_phase phase s t u so_far one =
      in_two (IsEarlier phase) (IsInPhase phase) (IsEarlier (phase + 1)) s t u
      (λ key does told. below_or_at key.phase phase told)
      (λ key told. omega (arith, told))
      (λ key told. omega (arith, told))
      so_far one

  -- a phase of which no key does something
  pub visit_empty_phase : (phase : ℕ) → ((key : Key) → visit.Does key → IsInPhase phase key → ⊥) → (s t : S)
      → visit.Adds (IsEarlier phase) s t → visit.Adds (IsEarlier (phase + 1)) s t
  visit_empty_phase phase nothing s t so_far = visit_phase phase s t t so_far (visit.none (IsInPhase phase) t nothing)

  pub visit_all_phases : (count : ℕ) → IsSearchedLexicon searched → length (rules_in searched).names ≤ count → (s t : S)
      → visit.Adds (IsEarlier count) s t → visit.Adds EveryKey s t
  visit_all_phases count is enough s t so_far =
      visit.same (IsEarlier count) EveryKey s t
      (λ key does told. (let low = possible_phase searched is line (numbered_of searched place) key (visit.possible key does) in omega (arith, low, enough)))
      (λ key told. tt)
      so_far
