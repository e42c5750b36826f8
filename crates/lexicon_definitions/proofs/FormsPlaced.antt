-- What placing an element in a rising list does: by induction on the list, along the three cases of a step.
use Rattle.std.proofs.Common.{◌≡◌, ◌≢◌, ℕ, zero, suc, ◌<◌, ◌≤◌, List, [], ◌∷◌, length, get_or, set, All, refl, sym, ap, ◌∙◌, arith, Ordering}
use Rattle.std.specs.declared.cmp.Ordering.TheVariants.{Less, Equal, Greater}
use Rattle.std.specs.List.{insert}
use Rattle.std.specs.List.Sorted.{IsStrictlySortedBy}
use Rattle.std.specs.Ordering.{on, ordering_reverse}
use Rattle.std.specs.Cmp.{IsTotalOrder}
use Rattle.std.proofs.lemmas.List.Elements.{All-from_recursion, recursion_from_All, All-nil, All-cons, All-head, All-tail, All-weaker}
use Rattle.std.proofs.lemmas.Map.Keys.{sorted_head, sorted_tail}
use Rattle.lexicon_definitions.specs.FormEntries.{placed, placed_at}

module _ {X : Type 0} (side : X → Ordering) (new : X) (change : X → X) where
  -- where all before the index stand before the place and the others after it, the new one is put in at the index
  pub placed_new : (xs : List X) (index : ℕ) → index ≤ length xs
      → ((k : ℕ) (d : X) → k < index → side (get_or xs k d) ≡ Less)
      → ((k : ℕ) (d : X) → index ≤ k → k < length xs → side (get_or xs k d) ≡ Greater)
      → placed side new change xs ≡ insert xs index new
  placed_new [] index within before after = let none : index ≡ 0 = omega (arith, within) in rw none refl
  placed_new (x ∷ xs) zero within before after =
      let first : side x ≡ Greater = after 0 x (omega arith) (omega arith) in rw first refl
  placed_new (x ∷ xs) (suc index) within before after =
      let first : side x ≡ Less = before 0 x (omega arith) in
      let rest = placed_new xs index (omega (arith, within)) (λ k d low. before (suc k) d (omega (arith, low))) (λ k d low high. after (suc k) d (omega (arith, low)) (omega (arith, high))) in
      rw first (ap (λ ys. x ∷ ys) rest)

  -- where the element at the index is the one at the place, it is changed
  pub placed_changed : (xs : List X) (index : ℕ) (d : X) → index < length xs
      → ((k : ℕ) (e : X) → k < index → side (get_or xs k e) ≡ Less)
      → side (get_or xs index d) ≡ Equal
      → placed side new change xs ≡ set xs index (change (get_or xs index d))
  placed_changed [] index d within before at = absurd (omega (arith, within))
  placed_changed (x ∷ xs) zero d within before at = rw at refl
  placed_changed (x ∷ xs) (suc index) d within before at =
      let first : side x ≡ Less = before 0 x (omega arith) in
      let rest = placed_changed xs index d (omega (arith, within)) (λ k e low. before (suc k) e (omega (arith, low))) at in
      rw first (ap (λ ys. x ∷ ys) rest)

  -- what holds of each element, of the new one and of each changed one holds of each element afterwards
  pub All-placed : (P : X → Type 0) → P new → ((x : X) → P x → P (change x)) → (xs : List X) → All P xs → All P (placed side new change xs)
  All-placed P is_new is_changed [] each = All-cons P new [] is_new (All-nil P)
  All-placed P is_new is_changed (x ∷ xs) each =
      let here = All-head P x xs each in
      let rest = All-tail P x xs each in
      let motive : Ordering → Type 0 = λ o. All P (placed_at o new (change x) x xs (placed side new change xs)) in
      elim (side x) as motive [
        | Less ↦ All-cons P x (placed side new change xs) here (All-placed P is_new is_changed xs rest)
        | Equal ↦ All-cons P (change x) xs (is_changed x here) rest
        | Greater ↦ All-cons P new (x ∷ xs) is_new each
      ]

  -- the list rises by a key afterwards, where a change keeps the key and `side` compares keys with that of the new one
  pub sorted_placed : {K : Type 0} {R : K → K → Ordering} (total : IsTotalOrder R) (key : X → K)
      → ((x : X) → side x ≡ R (key x) (key new)) → ((x : X) → key (change x) ≡ key x)
      → (xs : List X) → IsStrictlySortedBy (on key R) xs → IsStrictlySortedBy (on key R) (placed side new change xs)
  unfolding IsStrictlySortedBy
  sorted_placed total key compares keeps [] rising = (tt, tt)
  sorted_placed {K = K} {R = R} total key compares keeps (x ∷ xs) rising =
      let IsAbove : X → X → Type 0 = λ y z. R (key y) (key z) ≡ Less in
      let first = sorted_head (on key R) x xs rising in
      let rest = sorted_tail (on key R) x xs rising in
      let each = All-from_recursion (IsAbove x) xs first in
      let go : (o : Ordering) → side x ≡ o → IsStrictlySortedBy (on key R) (placed_at o new (change x) x xs (placed side new change xs)) =
      elim [
        | Less ↦ λ e.
            let is_new : IsAbove x new = sym (compares x) ∙ e in
            let is_changed : (y : X) → IsAbove x y → IsAbove x (change y) = λ y h. ap (λ k. R (key x) k) (keeps y) ∙ h in
            (recursion_from_All (IsAbove x) (placed side new change xs) (All-placed (IsAbove x) is_new is_changed xs each), sorted_placed total key compares keeps xs rest)
        | Equal ↦ λ e.
            (recursion_from_All (IsAbove (change x)) xs (All-weaker (IsAbove x) (IsAbove (change x)) (λ y h. ap (λ k. R k (key y)) (keeps x) ∙ h) xs each), rest)
        | Greater ↦ λ e.
            let is_new : IsAbove new x = total.antisymm (key new) (key x) ∙ ap ordering_reverse (sym (compares x) ∙ e) in
            (recursion_from_All (IsAbove new) (x ∷ xs) (All-cons (IsAbove new) x xs is_new (All-weaker (IsAbove x) (IsAbove new) (λ y h. total.trans (key new) (key x) (key y) is_new h) xs each)), rising)
      ]
      in go (side x) refl

-- a list that is not empty has a length
pub some_length : {A : Type 0} (xs : List A) → xs ≢ [] → 0 < length xs
some_length [] h = absurd (h refl)
some_length (x ∷ xs) h = omega arith
