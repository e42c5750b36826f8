-- Blanks rise, so that the first one that a search finds after a place is the next one.
use Rattle.std.proofs.Common.{◌≡◌, ℕ, ◌<◌, ◌≤◌, inl, inr, true, false, ◌∙◌, List, length, get_or, All, sym, subst, arith}
use Rattle.std.specs.List.Sorted.{IsStrictlyIncreasing, IsNonDecreasingBy, IsPartitionPoint}
use Rattle.std.proofs.lemmas.Bool.{leb-true, leb-false, cases_lt}
use Rattle.std.proofs.lemmas.List.{get_or_default}
use Rattle.std.proofs.lemmas.List.Kept.{AllPairs-from_increasing}
use Rattle.search_frames.specs.Ahead.{IsNextBlank}
use lib.Dec.{leb}

-- a blank is at most each later one
pub no_later_below : (blanks : List ℕ) → IsStrictlyIncreasing blanks → IsNonDecreasingBy (λ blank. blank) blanks
no_later_below blanks rising i j d upto within = elim (cases_lt i j) [
  | inl before ↦ omega (arith, AllPairs-from_increasing blanks rising i j d before within)
  | inr behind ↦
      let same : i ≡ j = omega arith in
      subst (λ k. get_or blanks i d ≤ get_or blanks k d) same (omega arith)
]

-- what a search for the first blank after the place finds
abbrev pub IsFound : List ℕ → ℕ → ℕ → Type 0
IsFound blanks at next = IsPartitionPoint (λ blank. leb blank at ≡ true) (λ blank. leb blank at ≡ false) blanks next

-- where none is found, none stands after the place
pub none_after : (blanks : List ℕ) (at next : ℕ) → IsFound blanks at next → length blanks ≤ next → All (λ blank. blank ≤ at) blanks
none_after blanks at next parted past k d there = leb-true (get_or blanks k d) at (parted.0 k d (omega arith) (omega arith))

-- what is found is the next one
pub next_after : (blanks : List ℕ) (at next blank : ℕ) → IsStrictlyIncreasing blanks → IsFound blanks at next → next < length blanks
    → blank ≡ get_or blanks next blank → IsNextBlank blanks at blank
next_after blanks at next blank rising parted there is = record {
  there = (next, there, sym is);
  later = let above = leb-false (get_or blanks next blank) at (parted.1 next blank (omega arith) there) in omega (arith, above, is);
  first = λ k d within above below. elim (cases_lt k next) [
    | inl before ↦ absurd (omega (arith, leb-true (get_or blanks k d) at (parted.0 k d (omega arith) before), above))
    | inr behind ↦
        let read : blank ≡ get_or blanks next d = is ∙ get_or_default blanks next blank d there in
        absurd (omega (arith, read, below, no_later_below blanks rising next k d behind within))
  ];
}
