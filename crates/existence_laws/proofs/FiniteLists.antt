-- All of a finite list's elements that have a decided property are a rising list, since each is put in its place; and the lists
-- of a finite list's elements up to a length are finitely many.
use Rattle.std.proofs.Common.{◌≡◌, ℕ, zero, suc, ◌<◌, ◌≤◌, ◌⊎◌, inl, inr, List, [], ◌∷◌, length, map, refl, sym, ◌∙◌, ap, subst, arith, Ordering}
use Rattle.std.specs.List.{AllByRecursion, Contains, flat_map}
use Rattle.std.specs.List.Sorted.{IsStrictlySortedBy}
use Rattle.std.specs.Cmp.{IsTotalOrder}
use Rattle.std.specs.declared.cmp.Ordering.TheVariants.{Less, Equal, Greater}
use Rattle.std.specs.Ordering.{ordering_reverse}
use Rattle.std.proofs.lemmas.Bool.{cases_eq}
use Rattle.std.proofs.lemmas.List.Elements.{Contains-append_left, Contains-append_right, Contains-append_cases}
use Rattle.std.proofs.lemmas.Map.Keys.{sorted_tail}
use Rattle.list_laws.specs.Firsts.{AreAll}
use Rattle.list_laws.proofs.Sorted.{Contains-first, Contains-later, Contains-cons_cases, not_Contains-nil, All-from_Contains, Less-from_later, sorted_nil}
use Rattle.list_laws.proofs.FirstOnes.{sorted-cons, Contains-map}
use Rattle.existence_laws.proofs.Decisions.{Decided}

-- ---- numbers, and lists of elements

-- the numbers below a bound
abbrev pub numbers_below : ℕ → List ℕ
numbers_below zero = []
numbers_below (suc n) = n ∷ numbers_below n

pub Contains-numbers_below : (bound n : ℕ) → n < bound → Contains (numbers_below bound) n
Contains-numbers_below zero n l = absurd (omega arith)
Contains-numbers_below (suc bound) n l = elim (cases_eq bound n) [
  | inl e ↦ subst (Contains (bound ∷ numbers_below bound)) e (Contains-first bound (numbers_below bound))
  | inr ne ↦ Contains-later bound (numbers_below bound) n (Contains-numbers_below bound n (omega arith))
]

pub Contains-flat_map : {X Y : Type 0} (f : X → List Y) (xs : List X) (x : X) (y : Y) → Contains xs x → Contains (f x) y → Contains (flat_map f xs) y
Contains-flat_map f [] x y m n = absurd (not_Contains-nil x m)
Contains-flat_map f (z ∷ xs) x y m n = elim (Contains-cons_cases z xs x m) [
  | inl e ↦ Contains-append_left (f z) (flat_map f xs) y (subst (λ w. Contains (f w) y) (sym e) n)
  | inr k ↦ Contains-append_right (f z) (flat_map f xs) y (Contains-flat_map f xs x y k n)
]

pub Contains-flat_map_cases : {X Y : Type 0} (f : X → List Y) (xs : List X) (y : Y) → Contains (flat_map f xs) y
    → (x : X) × Contains xs x × Contains (f x) y
Contains-flat_map_cases f [] y m = absurd (not_Contains-nil y m)
Contains-flat_map_cases f (x ∷ xs) y m = elim (Contains-append_cases (f x) (flat_map f xs) y m) [
  | inl k ↦ (x, Contains-first x xs, k)
  | inr n ↦ let h = Contains-flat_map_cases f xs y n in (h.0, Contains-later x xs h.0 h.1, h.2)
]

-- the lists of these elements, of at most so many
abbrev pub lists_up_to : {X : Type 0} → ℕ → List X → List (List X)
lists_up_to zero xs = [] ∷ []
lists_up_to (suc n) xs = [] ∷ flat_map (λ x. map (λ rest. x ∷ rest) (lists_up_to n xs)) xs

pub Contains-lists_up_to : {X : Type 0} (most : ℕ) (xs ys : List X) → length ys ≤ most → AllByRecursion (Contains xs) ys
    → Contains (lists_up_to most xs) ys
Contains-lists_up_to zero xs [] l h = Contains-first [] []
Contains-lists_up_to zero xs (y ∷ ys) l h = absurd (omega arith)
Contains-lists_up_to (suc most) xs [] l h = Contains-first [] (flat_map (λ x. map (λ rest. x ∷ rest) (lists_up_to most xs)) xs)
Contains-lists_up_to (suc most) xs (y ∷ ys) l h =
    Contains-later [] (flat_map (λ x. map (λ rest. x ∷ rest) (lists_up_to most xs)) xs) (y ∷ ys)
    (Contains-flat_map (λ x. map (λ rest. x ∷ rest) (lists_up_to most xs)) xs y (y ∷ ys) h.0
    (Contains-map (λ rest. y ∷ rest) (lists_up_to most xs) ys (Contains-lists_up_to most xs ys (omega arith) h.1)))

-- ---- all that have a property

module _ {X : Type 0} {R : X → X → Ordering} (o : IsTotalOrder R) (P : X → Type 0)
    (exact : (x y : X) → P x → P y → R x y ≡ Equal → x ≡ y) where
  -- a rising list with one element more
  record Put (xs : List X) (new : X) : Type 0 where
    list : List X
    rising : IsStrictlySortedBy R list
    from : (y : X) → Contains list y → Contains xs y ⊎ (new ≡ y)
    stays : (y : X) → Contains xs y → Contains list y
    comes : Contains list new

  put : (xs : List X) (new : X) → IsStrictlySortedBy R xs → ((x : X) → Contains xs x → P x) → P new → Put xs new
  put [] new s only p =
      record {
        list = new ∷ [];
        rising = sorted-cons R new [] (All-from_Contains (λ y. R new y ≡ Less) [] (λ y m. absurd (not_Contains-nil y m))) s;
        from = λ y m. elim (Contains-cons_cases new [] y m) [ inl e ↦ inr e | inr n ↦ inl n ];
        stays = λ y m. absurd (not_Contains-nil y m);
        comes = Contains-first new [];
      }
  put (x ∷ xs) new s only p =
      go (put xs new (sorted_tail R x xs s) (λ y m. only y (Contains-later x xs y m)) p) (R x new) refl
    where
      before_all : R x new ≡ Greater → (y : X) → Contains (x ∷ xs) y → R new y ≡ Less
      before_all e y m =
          let less : R new x ≡ Less = o.antisymm new x ∙ ap ordering_reverse e in
          elim (Contains-cons_cases x xs y m) [
            | inl f ↦ subst (λ z. R new z ≡ Less) f less
            | inr n ↦ o.trans new x y less (Less-from_later o x xs y s n)
          ]

      go : Put xs new → (order : Ordering) → R x new ≡ order → Put (x ∷ xs) new
      go rest Less e =
          record {
            list = x ∷ rest.list;
            rising = sorted-cons R x rest.list (All-from_Contains (λ y. R x y ≡ Less) rest.list (λ y m. elim (rest.from y m) [
              | inl n ↦ Less-from_later o x xs y s n
              | inr f ↦ subst (λ z. R x z ≡ Less) f e
            ])) rest.rising;
            from = λ y m. elim (Contains-cons_cases x rest.list y m) [
              | inl f ↦ inl (subst (Contains (x ∷ xs)) f (Contains-first x xs))
              | inr n ↦ elim (rest.from y n) [ inl k ↦ inl (Contains-later x xs y k) | inr f ↦ inr f ]
            ];
            stays = λ y m. elim (Contains-cons_cases x xs y m) [
              | inl f ↦ subst (Contains (x ∷ rest.list)) f (Contains-first x rest.list)
              | inr n ↦ Contains-later x rest.list y (rest.stays y n)
            ];
            comes = Contains-later x rest.list new rest.comes;
          }
      go rest Equal e =
          record {
            list = x ∷ xs;
            rising = s;
            from = λ y m. inl m;
            stays = λ y m. m;
            comes = subst (Contains (x ∷ xs)) (exact x new (only x (Contains-first x xs)) p e) (Contains-first x xs);
          }
      go rest Greater e =
          record {
            list = new ∷ x ∷ xs;
            rising = sorted-cons R new (x ∷ xs) (All-from_Contains (λ y. R new y ≡ Less) (x ∷ xs) (before_all e)) s;
            from = λ y m. elim (Contains-cons_cases new (x ∷ xs) y m) [ inl f ↦ inr f | inr n ↦ inl n ];
            stays = λ y m. Contains-later new (x ∷ xs) y m;
            comes = Contains-first new (x ∷ xs);
          }

  -- those of a list that have the property
  abbrev IsOf : List X → X → Type 0
  IsOf candidates x = P x × Contains candidates x

  passed_over : (c : X) (cs xs : List X) → (P c → ⊥) → AreAll R (IsOf cs) xs → AreAll R (IsOf (c ∷ cs)) xs
  passed_over c cs xs none all =
      record {
        rising = all.rising;
        only = λ x m. let h = all.only x m in (h.0, Contains-later c cs x h.1);
        complete = λ x h. elim (Contains-cons_cases c cs x h.1) [
          | inl e ↦ absurd (none (subst P (sym e) h.0))
          | inr m ↦ all.complete x (h.0, m)
        ];
      }

  taken_in : (c : X) (cs xs : List X) → P c → AreAll R (IsOf cs) xs → (ys : List X) × AreAll R (IsOf (c ∷ cs)) ys
  taken_in c cs xs p all =
      let q = put xs c all.rising (λ x m. (all.only x m).0) p in (
        q.list,
        record {
          rising = q.rising;
          only = λ x m. elim (q.from x m) [
            | inl k ↦ let h = all.only x k in (h.0, Contains-later c cs x h.1)
            | inr e ↦ subst (IsOf (c ∷ cs)) e (p, Contains-first c cs)
          ];
          complete = λ x h. elim (Contains-cons_cases c cs x h.1) [
            | inl e ↦ subst (Contains q.list) e q.comes
            | inr m ↦ q.stays x (all.complete x (h.0, m))
          ];
        },
      )

  those_of : (candidates : List X) → ((x : X) → Contains candidates x → Decided (P x)) → (xs : List X) × AreAll R (IsOf candidates) xs
  those_of [] each =
      ([], record { rising = sorted_nil R; only = λ x m. absurd (not_Contains-nil x m); complete = λ x h. absurd (not_Contains-nil x h.1) })
  those_of (c ∷ cs) each =
      let rest = those_of cs (λ x m. each x (Contains-later c cs x m)) in
      elim (each c (Contains-first c cs)) [
        | inl p ↦ taken_in c cs rest.0 p rest.1
        | inr n ↦ (rest.0, passed_over c cs rest.0 n rest.1)
      ]

  -- where only elements of a list can have the property, all that have it are a rising list
  pub all_that_have : (candidates : List X) → ((x : X) → Contains candidates x → Decided (P x)) → ((x : X) → P x → Contains candidates x)
      → (xs : List X) × AreAll R P xs
  all_that_have candidates each within =
      let h = those_of candidates each in (
        h.0,
        record { rising = h.1.rising; only = λ x m. (h.1.only x m).0; complete = λ x p. h.1.complete x (p, within x p) },
      )
