-- Whether a list of phases is a word of a grammar is decided: by recursion on the tree it is decided which marks begin a reading,
-- end it and follow one another, and so phase by phase which positions come after a list.
use Rattle.std.proofs.Common.{◌≡◌, inl, inr, ℕ, zero, suc, ◌+◌, List, [], ◌∷◌, ◌++◌, map, refl, sym, ap, subst, append_assoc}
use Rattle.std.specs.List.{AllByRecursion, Contains}
use Rattle.std.specs.Ordering.{nat_cmp}
use Rattle.std.proofs.lemmas.Bool.{cases_eq}
use Rattle.std.proofs.lemmas.Cmp.{nat_cmp_total}
use Rattle.std.proofs.lemmas.Map.Lookups.{exact_unsigned}
use Rattle.std.proofs.lemmas.List.{append-nil}
use Rattle.std.proofs.lemmas.List.Elements.{Contains-append_left, Contains-append_right}
use Rattle.list_laws.specs.Firsts.{AreAll}
use Rattle.list_laws.proofs.Sorted.{Contains-first}
use Rattle.list_laws.proofs.FirstOnes.{one_in_all, Contains-map}
use Rattle.lexicon_definitions.specs.Grammars.{Grammar, Name, Sequence, Either, AnyTimes, OnceOrMore, AtMostOnce, Accepts, Mark, count_names, Reads}
use Rattle.lexicon_definitions.specs.GrammarMarks.{IsFirst, IsLast, IsPair, IsPositionIn, IsLink, IsFinal}
use Rattle.lexicon_definitions.proofs.GrammarLists.{all_append, all_at}
use Rattle.lexicon_definitions.proofs.GrammarPositions.{all_of_joined}
use Rattle.lexicon_definitions.proofs.GrammarFollows as follows
use Rattle.lexicon_definitions.proofs.GrammarSteps.{position_step, accepts_final}
use Rattle.existence_laws.proofs.Decisions.{Decided, told_by, by_law, both, all_three, either, is_element, one_has}
use Rattle.existence_laws.proofs.FiniteLists.{all_that_have}

-- ---- marks

pub is_same_mark : (left right : Mark) → Decided (left ≡ right)
is_same_mark left right =
    told_by (λ h i. record { position = h.0 i; phase = h.1 i })
    (λ e. (ap (λ (m : Mark). m.position) e, ap (λ (m : Mark). m.phase) e))
    (both (cases_eq left.position right.position) (cases_eq left.phase right.phase))

-- the marks of a grammar, from left to right
abbrev pub marks_of : Grammar → ℕ → List Mark
marks_of (Name phase) from = record { position = from; phase = phase } ∷ []
marks_of (Sequence first second) from = marks_of first from ++ marks_of second (from + count_names first)
marks_of (Either left right) from = marks_of left from ++ marks_of right (from + count_names left)
marks_of (AnyTimes inner) from = marks_of inner from
marks_of (OnceOrMore inner) from = marks_of inner from
marks_of (AtMostOnce inner) from = marks_of inner from

weaker : (P Q : Mark → Type 0) → ((mark : Mark) → P mark → Q mark) → (marks : List Mark) → AllByRecursion P marks → AllByRecursion Q marks
weaker P Q each [] h = tt
weaker P Q each (mark ∷ marks) h = (each mark h.0, weaker P Q each marks h.1)

-- a reading reads marks of the grammar
marks_within : (g : Grammar) (from : ℕ) (marks : List Mark) → Reads g from marks → AllByRecursion (Contains (marks_of g from)) marks
marks_within (Name phase) from marks h =
    let mark : Mark = record { position = from; phase = phase } in
    let here : AllByRecursion (Contains (mark ∷ [])) (mark ∷ []) = (Contains-first mark [], tt) in
    subst (AllByRecursion (Contains (mark ∷ []))) (sym h) here
marks_within (Sequence first second) from marks h =
    let xs = marks_of first from in
    let ys = marks_of second (from + count_names first) in
    let P : Mark → Type 0 = Contains (xs ++ ys) in
    let left = weaker (Contains xs) P (λ m k. Contains-append_left xs ys m k) h.0 (marks_within first from h.0 h.3) in
    let right = weaker (Contains ys) P (λ m k. Contains-append_right xs ys m k) h.1 (marks_within second (from + count_names first) h.1 h.4) in
    subst (AllByRecursion P) (sym h.2) (all_append P h.0 h.1 left right)
marks_within (Either left right) from marks h =
    let xs = marks_of left from in
    let ys = marks_of right (from + count_names left) in
    let P : Mark → Type 0 = Contains (xs ++ ys) in
    elim h [
      | inl k ↦ weaker (Contains xs) P (λ m j. Contains-append_left xs ys m j) marks (marks_within left from marks k)
      | inr k ↦ weaker (Contains ys) P (λ m j. Contains-append_right xs ys m j) marks (marks_within right (from + count_names left) marks k)
    ]
marks_within (AnyTimes inner) from marks h =
    let P : Mark → Type 0 = Contains (marks_of inner from) in
    subst (AllByRecursion P) (sym h.1) (all_of_joined P (Reads inner from) (marks_within inner from) h.0 h.2)
marks_within (OnceOrMore inner) from marks h =
    let P : Mark → Type 0 = Contains (marks_of inner from) in
    subst (AllByRecursion P) (sym h.2) (all_of_joined P (Reads inner from) (marks_within inner from) h.0 h.3)
marks_within (AtMostOnce inner) from marks h =
    let P : Mark → Type 0 = Contains (marks_of inner from) in
    elim h [
      | inl e ↦ subst (AllByRecursion P) (sym e) tt
      | inr k ↦ marks_within inner from marks k
    ]

-- so do readings that are cut at a mark
mark_within : (g : Grammar) (front : List Mark) (mark : Mark) (rest : List Mark) → Reads g 1 (front ++ mark ∷ rest) → Contains (marks_of g 1) mark
mark_within g front mark rest h = all_at (Contains (marks_of g 1)) front mark rest (marks_within g 1 (front ++ mark ∷ rest) h)

first_within : (g : Grammar) (mark : Mark) → IsFirst g 1 mark → Contains (marks_of g 1) mark
first_within g mark h = mark_within g [] mark h.0 h.1

last_within : (g : Grammar) (mark : Mark) → IsLast g 1 mark → Contains (marks_of g 1) mark
last_within g mark h = mark_within g h.0 mark [] h.1

pair_first_within : (g : Grammar) (first second : Mark) → IsPair g 1 first second → Contains (marks_of g 1) first
pair_first_within g first second h = mark_within g h.0 first (second ∷ h.1) h.2

pair_second_within : (g : Grammar) (first second : Mark) → IsPair g 1 first second → Contains (marks_of g 1) second
pair_second_within g first second h =
    mark_within g (h.0 ++ first ∷ []) second h.1 (subst (Reads g 1) (sym (append_assoc h.0 (first ∷ []) (second ∷ h.1))) h.2)

-- ---- what begins a reading, ends it, and follows

reads_nothing : (g : Grammar) (from : ℕ) → Decided (Reads g from [])
reads_nothing (Name phase) from = inr (λ e. cc)
reads_nothing (Sequence first second) from =
    by_law (follows.sequence_empty first second from) (both (reads_nothing first from) (reads_nothing second (from + count_names first)))
reads_nothing (Either left right) from = either (reads_nothing left from) (reads_nothing right (from + count_names left))
reads_nothing (AnyTimes inner) from = inl (follows.any_times_empty inner from)
reads_nothing (OnceOrMore inner) from = by_law (follows.once_or_more_empty inner from) (reads_nothing inner from)
reads_nothing (AtMostOnce inner) from = inl (follows.at_most_once_empty inner from)

is_first : (g : Grammar) (from : ℕ) (m : Mark) → Decided (IsFirst g from m)
is_first (Name phase) from m = by_law (follows.name_first phase from m) (is_same_mark m (record { position = from; phase = phase }))
is_first (Sequence first second) from m =
    by_law (follows.sequence_first first second from m)
    (either (is_first first from m) (both (reads_nothing first from) (is_first second (from + count_names first) m)))
is_first (Either left right) from m =
    by_law (follows.either_first left right from m) (either (is_first left from m) (is_first right (from + count_names left) m))
is_first (AnyTimes inner) from m = by_law (follows.any_times_first inner from m) (is_first inner from m)
is_first (OnceOrMore inner) from m = by_law (follows.once_or_more_first inner from m) (is_first inner from m)
is_first (AtMostOnce inner) from m = by_law (follows.at_most_once_first inner from m) (is_first inner from m)

is_last : (g : Grammar) (from : ℕ) (m : Mark) → Decided (IsLast g from m)
is_last (Name phase) from m = by_law (follows.name_last phase from m) (is_same_mark m (record { position = from; phase = phase }))
is_last (Sequence first second) from m =
    by_law (follows.sequence_last first second from m)
    (either (is_last second (from + count_names first) m) (both (reads_nothing second (from + count_names first)) (is_last first from m)))
is_last (Either left right) from m =
    by_law (follows.either_last left right from m) (either (is_last left from m) (is_last right (from + count_names left) m))
is_last (AnyTimes inner) from m = by_law (follows.any_times_last inner from m) (is_last inner from m)
is_last (OnceOrMore inner) from m = by_law (follows.once_or_more_last inner from m) (is_last inner from m)
is_last (AtMostOnce inner) from m = by_law (follows.at_most_once_last inner from m) (is_last inner from m)

is_pair : (g : Grammar) (from : ℕ) (x y : Mark) → Decided (IsPair g from x y)
is_pair (Name phase) from x y = inr (follows.name_pair phase from x y)
is_pair (Sequence first second) from x y =
    by_law (follows.sequence_pair first second from x y)
    (either (is_pair first from x y)
    (either (is_pair second (from + count_names first) x y) (both (is_last first from x) (is_first second (from + count_names first) y))))
is_pair (Either left right) from x y =
    by_law (follows.either_pair left right from x y) (either (is_pair left from x y) (is_pair right (from + count_names left) x y))
is_pair (AnyTimes inner) from x y =
    by_law (follows.any_times_pair inner from x y) (either (is_pair inner from x y) (both (is_last inner from x) (is_first inner from y)))
is_pair (OnceOrMore inner) from x y =
    by_law (follows.once_or_more_pair inner from x y) (either (is_pair inner from x y) (both (is_last inner from x) (is_first inner from y)))
is_pair (AtMostOnce inner) from x y = by_law (follows.at_most_once_pair inner from x y) (is_pair inner from x y)

-- ---- links and ends

is_link : (g : Grammar) (before phase position : ℕ) → Decided (IsLink g before phase position)
is_link g zero phase position =
    told_by (λ h. (h.0, h.1.0, h.1.1, h.1.2)) (λ h. (h.0, (h.1, h.2, h.3)))
    (one_has (λ (mark : Mark). IsFirst g 1 mark × (mark.phase ≡ phase) × (mark.position ≡ position))
    (λ mark. all_three (is_first g 1 mark) (cases_eq mark.phase phase) (cases_eq mark.position position)) (marks_of g 1)
    (λ mark h. first_within g mark h.0))
is_link g (suc before) phase position =
    told_by (λ h. (h.0, h.1.0, h.1.1.0, h.1.1.1.0, h.1.1.1.1, h.1.1.1.2)) (λ h. (h.0, (h.1, (h.2, (h.3, h.4, h.5)))))
    (one_has (λ (first : Mark). (second : Mark) × HasSecond first second)
    (λ first. one_has (HasSecond first)
    (λ second. both (is_pair g 1 first second)
    (all_three (cases_eq first.position (suc before)) (cases_eq second.phase phase) (cases_eq second.position position))) (marks_of g 1)
    (λ second h. pair_second_within g first second h.0)) (marks_of g 1)
    (λ first h. pair_first_within g first h.0 h.1.0))
  where
    HasSecond : Mark → Mark → Type 0
    HasSecond first second =
        IsPair g 1 first second × ((first.position ≡ suc before) × (second.phase ≡ phase) × (second.position ≡ position))

-- a link leads to a position of a mark with its phase
pub record Linked (g : Grammar) (phase position : ℕ) : Type 0 where
  pub mark : Mark
  pub within : Contains (marks_of g 1) mark
  pub phase_is : mark.phase ≡ phase
  pub position_is : mark.position ≡ position

pub linked : (g : Grammar) (before phase position : ℕ) → IsLink g before phase position → Linked g phase position
linked g zero phase position h = record { mark = h.0; within = first_within g h.0 h.1; phase_is = h.2; position_is = h.3 }
linked g (suc before) phase position h =
    record { mark = h.1; within = pair_second_within g h.0 h.1 h.2; phase_is = h.4; position_is = h.5 }

is_end : (g : Grammar) (position : ℕ) → Decided (IsFinal g position)
is_end g zero = reads_nothing g 1
is_end g (suc position) =
    told_by (λ h. (h.0, h.1.0, h.1.1)) (λ h. (h.0, (h.1, h.2)))
    (one_has (λ (mark : Mark). IsLast g 1 mark × (mark.position ≡ suc position))
    (λ mark. both (is_last g 1 mark) (cases_eq mark.position (suc position))) (marks_of g 1)
    (λ mark h. last_within g mark h.0))

-- ---- the positions after a list

-- they are a rising list
abbrev pub Positions : Grammar → List ℕ → Type 0
Positions g phases = (positions : List ℕ) × AreAll nat_cmp (IsPositionIn g phases) positions

module _ (g : Grammar) where
  no_phase : Positions g []
  no_phase = (0 ∷ [], one_in_all nat_cmp (IsPositionIn g []) 0 refl (λ position e. e))

  comes_from : (phases : List ℕ) (phase position : ℕ) → IsPositionIn g (phases ++ phase ∷ []) position
      → (before : ℕ) × IsPositionIn g phases before × IsLink g before phase position
  comes_from phases phase position h = (position_step g phases phase position).0 h

  is_in : (phases : List ℕ) (positions : Positions g phases) (p : ℕ) → Decided (IsPositionIn g phases p)
  is_in phases positions p = told_by (positions.1.only p) (positions.1.complete p) (is_element cases_eq positions.0 p)

  one_phase_more : (phases : List ℕ) (phase : ℕ) → Positions g phases → Positions g (phases ++ phase ∷ [])
  one_phase_more phases phase before =
      all_that_have nat_cmp_total (IsPositionIn g (phases ++ phase ∷ [])) (λ x y p q e. exact_unsigned x y e)
      (map (λ (mark : Mark). mark.position) (marks_of g 1))
      (λ position m. by_law (position_step g phases phase position)
      (told_by (λ h. (h.0, h.1.0, h.1.1)) (λ h. (h.0, (h.1, h.2)))
      (one_has (λ p. IsPositionIn g phases p × IsLink g p phase position) (λ p. both (is_in phases before p) (is_link g p phase position)) before.0
      (λ p h. before.1.complete p h.0))))
      (λ position h.
      let from = comes_from phases phase position h in
      let is = linked g from.0 phase position from.2 in
      subst (Contains (map (λ (mark : Mark). mark.position) (marks_of g 1))) is.position_is
      (Contains-map (λ (mark : Mark). mark.position) (marks_of g 1) is.mark is.within))

  more_phases : (front rest : List ℕ) → Positions g front → Positions g (front ++ rest)
  more_phases front [] before = subst (Positions g) (sym (append-nil front)) before
  more_phases front (phase ∷ rest) before =
      subst (Positions g) (append_assoc front (phase ∷ []) rest) (more_phases (front ++ phase ∷ []) rest (one_phase_more front phase before))

  pub positions_after : (phases : List ℕ) → Positions g phases
  positions_after phases = more_phases [] phases no_phase

  pub is_word : (phases : List ℕ) → Decided (Accepts g phases)
  is_word phases =
      let positions = positions_after phases in
      by_law (accepts_final g phases)
      (told_by (λ h. (h.0, h.1.0, h.1.1)) (λ h. (h.0, (h.1, h.2)))
      (one_has (λ p. IsPositionIn g phases p × IsFinal g p) (λ p. both (is_in phases positions p) (is_end g p)) positions.0
      (λ p h. positions.1.complete p h.0)))
