-- Choices are local: for one choice by induction over the steps in their places, whose places rise; then the two orders
-- of "each choice" and "each step" are exchanged.
use Rattle.std.proofs.Common.{◌≡◌, ℕ, zero, suc, ◌<◌, ◌≤◌, ◌⊎◌, Bool, true, false, MatchBool, inl, inr, List, [], ◌∷◌, length, map, All, Contains, slice_index_or, refl, sym, ap, arith}
use Rattle.std.proofs.lemmas.Bool.{cases_order, false≢true}
use Rattle.lexicon_definitions.specs.Lexicons.{Lexicon, RuleSet, IsLexicon}
use Rattle.segmentation_definitions.specs.Derivations.{Step, Derives}
use Rattle.segmentation_definitions.specs.Items.{Placed, placed, Item, item_of, rank_of, Choice}
use Rattle.segmentation_definitions.specs.Answers.{KeepsChoices}
use Rattle.segmentation_definitions.specs.LocalTests.{rank_at, IsLast, next_rank, AllowsKept, AllowsChoice, AllAllow}
use Rattle.segmentation_definitions.proofs.Coverings.{unchanged_at_zero, Unchanged, Changed, StandsIn, StandsBefore, StandsLast, AreInPlace, LastStep, EarlierStep, in_place}
use Rattle.segmentation_definitions.proofs.RisingRanks.{after_lead_cases, rank_rises}

-- ---- last steps and next places

pub stands_first : {lexicon : Lexicon} {letters : ℕ} {p : Placed} {ps : List Placed} → AreInPlace lexicon letters (p ∷ ps) → StandsIn lexicon letters p
stands_first (LastStep stands last) = stands
stands_first (EarlierStep stands before rest) = stands

-- a step before another is not last: the other takes a letter, or a rule stands between
pub not_last : {lexicon : Lexicon} {letters : ℕ} {p q : Placed} → StandsIn lexicon letters q → StandsBefore lexicon.rules p q
    → IsLast lexicon.rules letters p → ⊥
not_last {lexicon = lexicon} {p = p} {q = q} stands before at_end = elim at_end [
  | inl final ↦ elim before.rule [ inl none ↦ omega (arith, final.0.0) | inr inner ↦ omega (arith, inner.1, ap length final.1) ]
  | inr all ↦
      let none = unchanged_at_zero lexicon.rules p.step.rule all.0 in
      elim stands.following [ Unchanged no_rule empty ↦ omega (arith, all.1, none.v_empty, empty.u_empty) | Changed number u w ↦ omega (arith, all.1, none.v_empty) ]
]

pub is_last : {rules : RuleSet} {letters : ℕ} {p : Placed} → StandsLast rules letters p → IsLast rules letters p
is_last {rules = rules} {p = p} last = elim last.rule [
  | inl none ↦ inr (none, let empty = unchanged_at_zero rules p.step.rule none in omega (arith, last.all, empty.w_empty))
  | inr final ↦ inl (final.0, final.1)
]

pub next_rank_is : {rules : RuleSet} {p q : Placed} → StandsBefore rules p q → next_rank rules p ≡ rank_at q
next_rank_is {rules = rules} {p = p} {q = q} before =
    let here = after_lead_cases p.step.rule in
    let next = after_lead_cases q.lead in
    elim before.rule [
      | inl none ↦ let empty = unchanged_at_zero rules p.step.rule none in omega (arith, empty.v_empty)
      | inr inner ↦ omega (arith, inner.0.0, inner.1)
    ]

-- ---- the items of steps

abbrev pub IsItemOf : Item → List Placed → Type 0
IsItemOf item [] = ⊥
IsItemOf item (p ∷ ps) = (item ≡ item_of p) ⊎ IsItemOf item ps

item_at : (item : Item) (ps : List Placed) (k : ℕ) → k < length (map item_of ps) → slice_index_or (map item_of ps) k item ≡ item → IsItemOf item ps
item_at item [] k lt e = absurd (omega arith)
item_at item (p ∷ ps) zero lt e = inl (sym e)
item_at item (p ∷ ps) (suc k) lt e = inr (item_at item ps k (omega arith) e)

pub item_of_contained : (item : Item) (ps : List Placed) → Contains (map item_of ps) item → IsItemOf item ps
item_of_contained item ps h = item_at item ps h.0 h.1 h.2

pub contained_item : (item : Item) (ps : List Placed) → IsItemOf item ps → Contains (map item_of ps) item
contained_item item [] h = elim h [ ]
contained_item item (p ∷ ps) h = elim h [
  | inl here ↦ (0, omega arith, sym here)
  | inr later ↦ let found = contained_item item ps later in (suc found.0, omega (arith, found.1), found.2)
]

-- the place of an item of the steps is not below the first step's
item_after : {lexicon : Lexicon} {letters : ℕ} {p : Placed} {ps : List Placed} (item : Item) → AreInPlace lexicon letters (p ∷ ps)
    → IsItemOf item (p ∷ ps) → rank_at p ≤ rank_of item
item_after item (LastStep stands last) h = elim h [ inl here ↦ omega (arith, ap rank_of here) | inr later ↦ elim later [ ] ]
item_after item (EarlierStep stands before rest) h = elim h [
  | inl here ↦ omega (arith, ap rank_of here)
  | inr later ↦ omega (arith, rank_rises stands before, item_after item rest later)
]

-- ---- one kept item

-- each step allows the item, kept or rejected
abbrev pub AllAllowOne : RuleSet → ℕ → Bool → Item → Bool → List Placed → Type 0
AllAllowOne rules letters kept item is_first [] = Unit {0}
AllAllowOne rules letters kept item is_first (p ∷ ps) = AllowsChoice rules letters is_first p kept item × AllAllowOne rules letters kept item false ps

-- a step allows its own item
allows_own : (rules : RuleSet) (letters : ℕ) (is_first : Bool) (p : Placed) (item : Item) → item ≡ item_of p → AllowsKept rules letters is_first p item
allows_own rules letters is_first p item own =
    let place : rank_of item ≡ rank_at p = ap rank_of own in
    record {
      here = λ same. own;
      between = λ earlier above. absurd (omega arith);
      following = λ last. omega arith;
      before = λ first. omega arith;
    }

-- a step that is not the first allows an item before it
allows_before : (rules : RuleSet) (letters : ℕ) (p : Placed) (item : Item) → rank_of item < rank_at p → AllowsKept rules letters false p item
allows_before rules letters p item below = record {
  here = λ same. absurd (omega arith);
  between = λ earlier above. absurd (omega arith);
  following = λ last. omega arith;
  before = λ first. absurd (false≢true first);
}

-- a step that is not the last allows an item from the next one's place on
allows_after : {lexicon : Lexicon} {letters : ℕ} {p q : Placed} (is_first : Bool) (item : Item) → StandsIn lexicon letters p → StandsIn lexicon letters q
    → StandsBefore lexicon.rules p q → rank_at q ≤ rank_of item → AllowsKept lexicon.rules letters is_first p item
allows_after is_first item stands next before above =
    let rises = rank_rises stands before in
    let same = next_rank_is before in
    record {
      here = λ equal. absurd (omega arith);
      between = λ earlier following. omega arith;
      following = λ last. absurd (not_last next before last);
      before = λ first. omega arith;
    }

all_allow_before : {lexicon : Lexicon} {letters : ℕ} {p : Placed} {ps : List Placed} (item : Item) → AreInPlace lexicon letters (p ∷ ps)
    → rank_of item < rank_at p → AllAllowOne lexicon.rules letters true item false (p ∷ ps)
all_allow_before {lexicon = lexicon} {letters = letters} item (LastStep {p = p} stands last) below = (allows_before lexicon.rules letters p item below, tt)
all_allow_before {lexicon = lexicon} {letters = letters} item (EarlierStep {p = p} stands before rest) below =
    (allows_before lexicon.rules letters p item below, all_allow_before item rest (omega (arith, rank_rises stands before)))

all_allow_item : {lexicon : Lexicon} {letters : ℕ} {ps : List Placed} (is_first : Bool) (item : Item) → AreInPlace lexicon letters ps
    → IsItemOf item ps → AllAllowOne lexicon.rules letters true item is_first ps
all_allow_item {lexicon = lexicon} {letters = letters} is_first item (LastStep {p = p} stands last) h = elim h [
  | inl here ↦ (allows_own lexicon.rules letters is_first p item here, tt)
  | inr later ↦ elim later [ ]
]
all_allow_item {lexicon = lexicon} {letters = letters} is_first item (EarlierStep {p = p} stands before rest) h = elim h [
  | inl here ↦ (allows_own lexicon.rules letters is_first p item here, all_allow_before item rest (omega (arith, rank_rises stands before, ap rank_of here)))
  | inr later ↦ (allows_after is_first item stands (stands_first rest) before (item_after item rest later), all_allow_item false item rest later)
]

item_if_allowed : {lexicon : Lexicon} {letters : ℕ} {p : Placed} {ps : List Placed} (is_first : Bool) (item : Item) → AreInPlace lexicon letters (p ∷ ps)
    → rank_at p ≤ rank_of item → AllAllowOne lexicon.rules letters true item is_first (p ∷ ps) → IsItemOf item (p ∷ ps)
item_if_allowed is_first item (LastStep {p = p} stands last) above allow = elim (cases_order (rank_of item) (rank_at p)) [
  | inl same ↦ inl (allow.0.here same)
  | inr apart ↦ absurd (omega (arith, apart, allow.0.following (is_last last)))
]
item_if_allowed is_first item (EarlierStep {p = p} stands before rest) above allow = elim (cases_order (rank_of item) (rank_at p)) [
  | inl same ↦ inl (allow.0.here same)
  | inr apart ↦ inr (item_if_allowed false item rest
      (omega (arith, next_rank_is before, allow.0.between (not_last (stands_first rest) before) (omega (arith, apart)))) allow.1)
]

-- ---- one rejected item

all_allow_absent : (rules : RuleSet) (letters : ℕ) (is_first : Bool) (item : Item) (ps : List Placed) → (IsItemOf item ps → ⊥)
    → AllAllowOne rules letters false item is_first ps
all_allow_absent rules letters is_first item [] absent = tt
all_allow_absent rules letters is_first item (p ∷ ps) absent =
    (λ here. absent (inl here), all_allow_absent rules letters false item ps (λ later. absent (inr later)))

absent_if_allowed : (rules : RuleSet) (letters : ℕ) (is_first : Bool) (item : Item) (ps : List Placed)
    → AllAllowOne rules letters false item is_first ps → IsItemOf item ps → ⊥
absent_if_allowed rules letters is_first item [] allow h = h
absent_if_allowed rules letters is_first item (p ∷ ps) allow h = elim h [
  | inl here ↦ allow.0 here
  | inr later ↦ absent_if_allowed rules letters false item ps allow.1 later
]

-- ---- one choice

pub allow_choice : (lexicon : Lexicon) (letters : ℕ) (ps : List Placed) (kept : Bool) (item : Item) → AreInPlace lexicon letters ps
    → MatchBool kept (Contains (map item_of ps) item) (Contains (map item_of ps) item → ⊥) → AllAllowOne lexicon.rules letters kept item true ps
allow_choice lexicon letters ps true item stand h = all_allow_item true item stand (item_of_contained item ps h)
allow_choice lexicon letters ps false item stand h =
    all_allow_absent lexicon.rules letters true item ps (λ member. h (contained_item item ps member))

pub keep_choice : (lexicon : Lexicon) (letters : ℕ) (p : Placed) (ps : List Placed) (kept : Bool) (item : Item) → AreInPlace lexicon letters (p ∷ ps)
    → AllAllowOne lexicon.rules letters kept item true (p ∷ ps)
    → MatchBool kept (Contains (map item_of (p ∷ ps)) item) (Contains (map item_of (p ∷ ps)) item → ⊥)
keep_choice lexicon letters p ps true item stand allow =
    contained_item item (p ∷ ps) (item_if_allowed true item stand (allow.0.before refl) allow)
keep_choice lexicon letters p ps false item stand allow =
    λ found. absent_if_allowed lexicon.rules letters true item (p ∷ ps) allow (item_of_contained item (p ∷ ps) found)

-- ---- all choices

each_step_allows : (rules : RuleSet) (letters : ℕ) (choices : List Choice) (is_first : Bool) (ps : List Placed)
    → All (λ choice. AllAllowOne rules letters choice.kept choice.item is_first ps) choices → AllAllow rules letters choices is_first ps
each_step_allows rules letters choices is_first [] h = tt
each_step_allows rules letters choices is_first (p ∷ ps) h =
    (λ k d lt. (h k d lt).0, each_step_allows rules letters choices false ps (λ k d lt. (h k d lt).1))

each_choice_allowed : (rules : RuleSet) (letters : ℕ) (choices : List Choice) (is_first : Bool) (ps : List Placed)
    → AllAllow rules letters choices is_first ps → All (λ choice. AllAllowOne rules letters choice.kept choice.item is_first ps) choices
each_choice_allowed rules letters choices is_first [] h k d lt = tt
each_choice_allowed rules letters choices is_first (p ∷ ps) h k d lt = (h.0 k d lt, each_choice_allowed rules letters choices false ps h.1 k d lt)

pub allowed_if_kept : (lexicon : Lexicon) (word : List ℕ) (choices : List Choice) (steps : List Step) → IsLexicon lexicon → Derives lexicon steps word
    → KeepsChoices lexicon.rules choices steps → AllAllow lexicon.rules (length word) choices true (placed lexicon.rules steps)
allowed_if_kept lexicon word choices steps is derives keeps =
    each_step_allows lexicon.rules (length word) choices true (placed lexicon.rules steps)
    (λ k d lt. allow_choice lexicon (length word) (placed lexicon.rules steps) (slice_index_or choices k d).kept (slice_index_or choices k d).item
    (in_place lexicon word steps is derives) (keeps k d lt))

pub kept_if_allowed : (lexicon : Lexicon) (word : List ℕ) (choices : List Choice) (steps : List Step) → IsLexicon lexicon → Derives lexicon steps word
    → AllAllow lexicon.rules (length word) choices true (placed lexicon.rules steps) → KeepsChoices lexicon.rules choices steps
kept_if_allowed lexicon word choices [] is derives allow k d lt = elim derives.ends [ ]
kept_if_allowed lexicon word choices (step ∷ steps) is derives allow k d lt =
    keep_choice lexicon (length word) _ _ (slice_index_or choices k d).kept (slice_index_or choices k d).item
    (in_place lexicon word (step ∷ steps) is derives)
    (each_choice_allowed lexicon.rules (length word) choices true (placed lexicon.rules (step ∷ steps)) allow k d lt)
