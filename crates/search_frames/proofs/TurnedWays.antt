-- The first of the ways from one key on: with one of them each path begins, and they rise, so those before it have been looked at.
use Rattle.std.proofs.Common.{◌≡◌, ℕ, ◌+◌, ◌<◌, ◌≤◌, inl, inr, Bool, true, false, Option, List, length, get_or, refl, sym, ◌∙◌, ap, subst, arith}
use Rattle.std.specs.Prelude.{Contains}
use Rattle.std.specs.declared.cmp.Ordering.{Ordering}
use Rattle.std.specs.declared.cmp.Ordering.TheVariants.{Less, Equal, Greater}
use Rattle.std.specs.Ordering.{is_lt}
use Rattle.std.specs.List.Sorted.{IsStrictlySortedBy}
use Rattle.std.proofs.lemmas.Bool.{cases_lt}
use Rattle.std.proofs.lemmas.Map.Keys.{Less-from_sorted}
use Rattle.text_definitions.specs.Lines.{Line}
use Rattle.segmentation_definitions.specs.Items.{Choice}
use Rattle.segmentation_definitions.specs.Listings.{Key, compare_keys}
use Rattle.derivation.specs.declared.entrance.Entrance.{Entrance}
use Rattle.annotated_trie.specs.Searched.{SearchedLexicon}
use Rattle.search_frames.specs.declared.testing.Test.{Test}
use Rattle.search_frames.specs.declared.testing.Test.TheVariants.{Refused}
use Rattle.search_frames.specs.Configurations.{NumberedConfiguration, IsPossible}
use Rattle.search_frames.specs.Turns.{BeginsPath}
use Rattle.search_frames.specs.FirstKeys.{IsFirstOf, HasNoneOf, IsFrom, IsJudged}
use Rattle.search_frames.proofs.StepKeys.{before_from_less, less_from_before}

-- ---- before a key, or from it on

less_if_lt : (order : Ordering) → is_lt order ≡ true → order ≡ Less
less_if_lt Less lt = refl
less_if_lt Equal lt = absurd (cc lt)
less_if_lt Greater lt = absurd (cc lt)

not_less_if_not : (order : Ordering) → is_lt order ≡ false → order ≡ Less → ⊥
not_less_if_not Less not_lt less = cc not_lt
not_less_if_not Equal not_lt less = cc less
not_less_if_not Greater not_lt less = cc less

-- a key that comes before another is none from that one on
pub not_from : (from key : Key) → is_lt (compare_keys key from) ≡ true → IsFrom from key → ⊥
not_from from key lt is_from = elim (before_from_less key from (less_if_lt (compare_keys key from) lt)) [
  | inl lower ↦ elim is_from [
    | inl higher ↦ omega (arith, lower, higher)
    | inr (same, rest) ↦ omega (arith, lower, same)
  ]
  | inr (phase, inl more) ↦ elim is_from [
    | inl higher ↦ omega (arith, phase, higher)
    | inr (same, inl fewer) ↦ omega (arith, more, fewer)
    | inr (same, inr (taken, rule)) ↦ omega (arith, more, taken)
  ]
  | inr (phase, inr (letters, low)) ↦ elim is_from [
    | inl higher ↦ omega (arith, phase, higher)
    | inr (same, inl fewer) ↦ omega (arith, letters, fewer)
    | inr (same, inr (taken, rule)) ↦ omega (arith, low, rule)
  ]
]

-- and each other one is
pub from_unless_before : (from key : Key) → is_lt (compare_keys key from) ≡ false → IsFrom from key
from_unless_before from key not_lt =
    let before = λ (before : compare_keys key from ≡ Less). not_less_if_not (compare_keys key from) not_lt before in
    elim (cases_lt from.phase key.phase) [
      | inl later ↦ inl later
      | inr no_later ↦ elim (cases_lt key.phase from.phase) [
        | inl earlier ↦ absurd (before (less_from_before key from (inl earlier)))
        | inr no_earlier ↦
            let phase : from.phase ≡ key.phase = omega (arith, no_later, no_earlier) in
            elim (cases_lt key.taken from.taken) [
              | inl fewer ↦ inr (phase, inl fewer)
              | inr no_fewer ↦ elim (cases_lt from.taken key.taken) [
                | inl more ↦ absurd (before (less_from_before key from (inr (sym phase, inl more))))
                | inr no_more ↦
                    let taken : key.taken ≡ from.taken = omega (arith, no_fewer, no_more) in
                    elim (cases_lt key.rule from.rule) [
                      | inl low ↦ absurd (before (less_from_before key from (inr (sym phase, inr (sym taken, low)))))
                      | inr no_low ↦ inr (phase, inr (taken, no_low))
                    ]
              ]
            ]
      ]
    ]

-- a key that comes after another is one from that one on, and so is the key itself
from_if_less : (from key : Key) → compare_keys from key ≡ Less → IsFrom from key
from_if_less from key less = elim (before_from_less from key less) [
  | inl later ↦ inl later
  | inr (phase, inl fewer) ↦ inr (phase, inl fewer)
  | inr (phase, inr (taken, low)) ↦ inr (phase, inr (taken, omega (arith, low)))
]

from_itself : (from key : Key) → from ≡ key → IsFrom from key
from_itself from key same = subst (IsFrom from) same (inr (refl, inr (refl, omega arith)))

-- ---- one way after another

-- the key is one of the first keys, and does not come before `from`
abbrev pub IsTriedWay : Key → List Key → ℕ → Key → Type 0
IsTriedWay from keys count key = IsFrom from key × ((k : ℕ) × (k < count) × (k < length keys) × (get_or keys k key ≡ key))

module _ (searched : SearchedLexicon) (line : Line) (choices : List Choice) (here : NumberedConfiguration) (from : Key) (keys : List Key) where
  -- one way more with which no path begins, or which comes before
  pub one_way_more : (count : ℕ) (way : Key) → ((default : Key) → get_or keys count default ≡ way) → HasNoneOf searched line choices here (IsTriedWay from keys count)
      → (IsFrom from way → BeginsPath searched line choices here way → ⊥) → HasNoneOf searched line choices here (IsTriedWay from keys (count + 1))
  one_way_more count way way_is none not_this key begins (meant, tried) = elim (cases_lt tried.0 count) [
    | inl below ↦ none key begins (meant, (tried.0, below, tried.2, tried.3))
    | inr above ↦
        let low = tried.1 in
        let at : tried.0 ≡ count = omega (arith, low, above) in
        let same : key ≡ way = sym tried.3 ∙ ap (λ (k : ℕ). get_or keys k key) at ∙ way_is key in
        not_this (subst (IsFrom from) same meant) (subst (BeginsPath searched line choices here) same begins)
  ]

  module _ (all : (key : Key) → BeginsPath searched line choices here key → Contains keys key) where
    -- where all were looked at there is none
    pub no_way_left : (count : ℕ) → length keys ≤ count → HasNoneOf searched line choices here (IsTriedWay from keys count)
        → HasNoneOf searched line choices here (IsFrom from)
    no_way_left count past none key begins meant =
        let there = all key begins in
        let low = there.1 in
        none key begins (meant, (there.0, omega (arith, low, past), there.1, there.2))

    -- and the next one with which a path may begin is the first
    pub first_way : IsStrictlySortedBy compare_keys keys → (says : ℕ → Entrance → Option ℕ → Bool) (count : ℕ) (way : Key) (does : Test) → count < length keys
        → ((default : Key) → get_or keys count default ≡ way) → HasNoneOf searched line choices here (IsTriedWay from keys count)
        → IsFrom from way → IsPossible searched line here way → IsJudged searched line choices says here way does → (does ≡ Refused → ⊥)
        → IsFirstOf searched line choices says here (IsFrom from) way does
    first_way rising says count way does low way_is none is_from possible judged goes = record {
      possible = possible;
      meant = is_from;
      judged = judged;
      goes = goes;
      first = λ key begins meant.
          let there = all key begins in
          elim (cases_lt there.0 count) [
            | inl below ↦ absurd (none key begins (meant, (there.0, below, there.1, there.2)))
            | inr above ↦ elim (cases_lt count there.0) [
              | inl later ↦
                  let less = Less-from_sorted compare_keys keys count there.0 key rising later there.1 in
                  from_if_less way key
                  (subst (λ (k : Key). compare_keys k key ≡ Less) (way_is key) (subst (λ (k : Key). compare_keys (get_or keys count key) k ≡ Less) there.2 less))
              | inr no_later ↦
                  let at : count ≡ there.0 = omega (arith, above, no_later) in
                  from_itself way key (sym (way_is key) ∙ ap (λ (k : ℕ). get_or keys k key) at ∙ there.2)
            ]
          ];
    }
