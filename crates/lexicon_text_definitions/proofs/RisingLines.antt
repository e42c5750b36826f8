-- One more at the end of a rising list: the test compares it with the last, and the order makes it come after all before it.
use Rattle.std.proofs.Common.{◌≡◌, List, [], ◌∷◌, ◌++◌, refl, All}
use Rattle.std.specs.List.{AllByRecursion}
use Rattle.std.specs.List.Sorted.{IsStrictlySortedBy}
use Rattle.std.specs.Cmp.{IsTotalOrder}
use Rattle.std.specs.declared.cmp.Ordering.{Ordering}
use Rattle.std.specs.declared.cmp.Ordering.TheVariants.{Less}
use Rattle.std.proofs.lemmas.Cmp.{nat_cmp_total, nat_list_cmp_total, then_total, on_total}
use Rattle.std.proofs.lemmas.List.Elements.{All-head, All-tail}
use Rattle.std.proofs.lemmas.Map.Keys.{sorted_head, sorted_tail}
use Rattle.text_definitions.specs.Words.{compare_words}
use Rattle.lexicon_text_definitions.specs.FileContents.{compare_entries, compare_last}
use Rattle.lexicon_definitions.specs.FormEntries.{Entry}
use Rattle.list_laws.proofs.Sorted.{following_front, Contains-first}
use Rattle.lexicon_definitions.proofs.FormsWithEntry.{analyses_total}

-- ---- the orders

pub words_total : IsTotalOrder compare_words
words_total = nat_list_cmp_total

pub lines_total : IsTotalOrder compare_entries
lines_total =
    then_total (on_total (λ (l : Entry). l.phase) nat_cmp_total)
    (then_total (on_total (λ (l : Entry). l.letters) words_total) (on_total (λ (l : Entry). l.analysis) analyses_total))

pub sorted_one : {K : Type 0} (R : K → K → Ordering) (x : K) → IsStrictlySortedBy R (x ∷ [])
unfolding IsStrictlySortedBy
sorted_one R x = (tt, tt)

pub sorted_cons : {K : Type 0} (R : K → K → Ordering) (x : K) (xs : List K) → AllByRecursion (λ y. R x y ≡ Less) xs → IsStrictlySortedBy R xs → IsStrictlySortedBy R (x ∷ xs)
unfolding IsStrictlySortedBy
sorted_cons R x xs h s = (h, s)

module _ {K : Type 0} {R : K → K → Ordering} (o : IsTotalOrder R) where
  -- what comes after the last of a rising list comes after its first
  first_below : (first : K) (rest : List K) (y : K) → IsStrictlySortedBy R (first ∷ rest) → compare_last R (first ∷ rest) y ≡ Less → R first y ≡ Less
  first_below first [] y s c = c
  first_below first (second ∷ rest) y s c =
      o.trans first second y (sorted_head R first (second ∷ rest) s).0 (first_below second rest y (sorted_tail R first (second ∷ rest) s) c)

  push_all : (first : K) (rest : List K) (y : K) → AllByRecursion (λ z. R first z ≡ Less) rest → R first y ≡ Less → AllByRecursion (λ z. R first z ≡ Less) (rest ++ y ∷ [])
  push_all first [] y h l = (l, tt)
  push_all first (second ∷ rest) y h l = (h.0, push_all first rest y h.1 l)

  -- with one more, above the last, the list rises
  pub sorted_with_last : (xs : List K) (y : K) → IsStrictlySortedBy R xs → compare_last R xs y ≡ Less → IsStrictlySortedBy R (xs ++ y ∷ [])
  sorted_with_last [] y s c = sorted_one R y
  sorted_with_last (first ∷ []) y s c = sorted_cons R first (y ∷ []) (c, tt) (sorted_one R y)
  sorted_with_last (first ∷ second ∷ rest) y s c =
      sorted_cons R first (second ∷ (rest ++ y ∷ []))
      (push_all first (second ∷ rest) y (sorted_head R first (second ∷ rest) s) (first_below first (second ∷ rest) y s c))
      (sorted_with_last (second ∷ rest) y (sorted_tail R first (second ∷ rest) s) c)

  pub last_by : (xs : List K) (y : K) → All (λ x. R x y ≡ Less) xs → compare_last R xs y ≡ Less
  last_by [] y h = refl
  last_by (first ∷ []) y h = All-head (λ x. R x y ≡ Less) first [] h
  last_by (first ∷ second ∷ rest) y h = last_by (second ∷ rest) y (All-tail (λ x. R x y ≡ Less) first (second ∷ rest) h)

  -- in a rising list one is above the last of those before it
  pub last_below : (xs : List K) (y : K) (ys : List K) → IsStrictlySortedBy R (xs ++ y ∷ ys) → compare_last R xs y ≡ Less
  last_below xs y ys s = last_by xs y (following_front o xs (y ∷ ys) y s (Contains-first y ys))
