-- First ones of a property: they are found one after another, each the least of those left; and those of one property come after all
-- those of another.
use Rattle.std.proofs.Common.{◌≡◌, ◌≢◌, ◌⊎◌, ◌↔◌, inl, inr, ℕ, ◌+◌, ◌-◌, ◌<◌, ◌≤◌, min, Bool, true, false, IsTrue, List, [], ◌∷◌, ◌++◌, length, take, drop, refl, sym, ap, subst, arith}
use Rattle.std.specs.List.{Contains}
use Rattle.std.specs.List.Sorted.{IsStrictlySortedBy}
use Rattle.std.specs.Cmp.{IsTotalOrder}
use Rattle.std.specs.declared.cmp.Ordering.{Ordering}
use Rattle.std.specs.declared.cmp.Ordering.TheVariants.{Less, Equal, Greater}
use Rattle.std.proofs.lemmas.List.{take-append-drop, length-take, length-drop, length-append}
use Rattle.std.proofs.lemmas.List.Elements.{All-nil, All-cons, All-append, All-contains, All-weaker, Contains-append_left, Contains-append_right, Contains-append_cases}
use Rattle.list_laws.specs.Firsts.{ComesAfter, AreFirst, AreAll}
use Rattle.list_laws.proofs.Sorted.{Contains-first, Contains-cons_cases, not_Contains-nil, Contains-from_take, Contains-from_drop, Contains-parts, All-from_Contains, sorted_nil, sorted_append, sorted_front, following_front, not_after, same_fronts, same_sorted}
use Rattle.list_laws.proofs.Elements.{some_element, some_by_element}
use Rattle.front_definitions.specs.NextOnes.{AreNext}

not_greater_cases : (order : Ordering) → order ≢ Greater → (order ≡ Less) ⊎ (order ≡ Equal)
not_greater_cases Less not = inl refl
not_greater_cases Equal not = inr refl
not_greater_cases Greater not = absurd (not refl)

in_one : {X : Type 0} (x y : X) → Contains (x ∷ []) y → x ≡ y
in_one x y of = elim (Contains-cons_cases x [] y of) [ inl here ↦ here | inr later ↦ absurd (not_Contains-nil y later) ]

same_tests : {A : Type 0} (left right : Bool) → (IsTrue left ↔ A) → (IsTrue right ↔ A) → left ≡ right
same_tests true true p q = refl
same_tests true false p q = sym (q.1 (p.0 refl))
same_tests false true p q = p.1 (q.0 refl)
same_tests false false p q = refl

-- these are first ones of the property, and one more stands right after them
pub record AreBefore {X : Type 0} (compare : X → X → Ordering) (P : X → Type 0) (firsts : List X) (next : X) : Type 0 where
  pub rising : IsStrictlySortedBy compare firsts
  pub only : (x : X) → Contains firsts x → P x
  pub has : P next
  pub after : ComesAfter compare firsts next
  pub complete : (x : X) → P x → Contains firsts x ⊎ (compare next x ≢ Greater)

module _ {X : Type 0} {R : X → X → Ordering} (total : IsTotalOrder R) where
  module _ (P : X → Type 0) where
    -- ---- found one after another

    module _ (exact : (x y : X) → P x → P y → R x y ≡ Equal → x ≡ y) where
      pub none_before : (next : X) → P next → ((x : X) → P x → R next x ≢ Greater) → AreBefore R P [] next
      none_before next has least = record {
        rising = sorted_nil R;
        only = λ x of. absurd (not_Contains-nil x of);
        has = has;
        after = All-nil (λ before. R before next ≡ Less);
        complete = λ x of. inr (least x of);
      }

      pub none_at_all : (most : ℕ) → ((x : X) → P x → ⊥) → AreNext R P most [] false
      none_at_all most none = record {
        first = record {
          rising = sorted_nil R;
          only = λ x of. absurd (not_Contains-nil x of);
          complete = λ x of. absurd (none x of);
          left = λ told_so. absurd (cc (told_so));
        };
        at_most = omega arith;
        full = λ told_so. absurd (cc (told_so));
      }

      module _ (firsts : List X) (next : X) (are : AreBefore R P firsts next) where
        rising_on : IsStrictlySortedBy R (firsts ++ next ∷ [])
        unfolding IsStrictlySortedBy
        rising_on = sorted_append total firsts (next ∷ []) are.rising (tt, tt) (λ x of. subst (ComesAfter R firsts) (in_one next x of) are.after)

        only_on : (x : X) → Contains (firsts ++ next ∷ []) x → P x
        only_on x of = elim (Contains-append_cases firsts (next ∷ []) x of) [
          | inl here ↦ are.only x here
          | inr last ↦ subst P (in_one next x last) are.has
        ]

        -- what is not one of them comes after the last of them
        in_or_above : (x : X) → P x → Contains (firsts ++ next ∷ []) x ⊎ (R next x ≡ Less)
        in_or_above x of = elim (are.complete x of) [
          | inl here ↦ inl (Contains-append_left firsts (next ∷ []) x here)
          | inr not ↦ elim (not_greater_cases (R next x) not) [
            | inl less ↦ inr less
            | inr equal ↦ inl (Contains-append_right firsts (next ∷ []) x
                (subst (Contains (next ∷ [])) (exact next x are.has of equal) (Contains-first next [])))
          ]
        ]

        all_below : (x : X) → R next x ≡ Less → ComesAfter R firsts x
        all_below x less =
            All-weaker (λ before. R before next ≡ Less) (λ before. R before x ≡ Less) (λ before under. total.trans before next x under less) firsts are.after

        pub next_before : (later : X) → P later → R next later ≡ Less → ((x : X) → P x → R next x ≡ Less → R later x ≢ Greater)
            → AreBefore R P (firsts ++ next ∷ []) later
        next_before later has less least = record {
          rising = rising_on;
          only = only_on;
          has = has;
          after = All-append (λ before. R before later ≡ Less) firsts (next ∷ []) (all_below later less)
              (All-cons (λ before. R before later ≡ Less) next [] less (All-nil (λ before. R before later ≡ Less)));
          complete = λ x of. elim (in_or_above x of) [ inl here ↦ inl here | inr above ↦ inr (least x of above) ];
        }

        -- none is left after the next one
        pub all_with_next : (most : ℕ) → length firsts < most → ((x : X) → P x → R next x ≡ Less → ⊥) → AreNext R P most (firsts ++ next ∷ []) false
        all_with_next most fewer none =
            let count = length-append firsts (next ∷ []) in
            record {
              first = record {
                rising = rising_on;
                only = only_on;
                complete = λ x of. elim (in_or_above x of) [ inl here ↦ inl here | inr above ↦ absurd (none x of above) ];
                left = λ told_so. absurd (cc (told_so));
              };
              at_most = omega (arith, count, fewer);
              full = λ told_so. absurd (cc (told_so));
            }

        -- they are as many as are asked for, and the next one is left
        pub full_before : (most : ℕ) → length firsts ≡ most → AreNext R P most firsts true
        full_before most full = record {
          first = record {
            rising = are.rising;
            only = are.only;
            complete = λ x of. elim (are.complete x of) [
              | inl here ↦ inl here
              | inr not ↦ elim (not_greater_cases (R next x) not) [
                | inl less ↦ inr (refl, all_below x less)
                | inr equal ↦ inr (refl, subst (ComesAfter R firsts) (exact next x are.has of equal) are.after)
              ]
            ];
            left = λ told_so. (next, are.has, are.after);
          };
          at_most = omega (arith, full);
          full = λ told_so. full;
        }

    -- ---- what they determine

    -- more is true just where one is left
    pub left_iff : (most : ℕ) (firsts : List X) (more : Bool) → AreNext R P most firsts more
        → IsTrue more ↔ ((x : X) × P x × ComesAfter R firsts x)
    left_iff most firsts more are = (
      are.first.left,
      λ some. elim (are.first.complete some.0 some.1) [ inl here ↦ absurd (not_after total firsts some.0 here some.2) | inr left ↦ left.0 ],
    )

    in_or_after : (most : ℕ) (left right : List X) (left_more right_more : Bool) → AreNext R P most left left_more → AreNext R P most right right_more
        → (x : X) → Contains left x → Contains right x ⊎ ((length left ≤ length right) × ComesAfter R right x)
    in_or_after most left right left_more right_more p q x of = elim (q.first.complete x (p.first.only x of)) [
      | inl here ↦ inl here
      | inr (more, after) ↦ let few = p.at_most in let full = q.full more in inr (omega (arith, few, full), after)
    ]

    pub same_next : (most : ℕ) (left right : List X) (left_more right_more : Bool) → AreNext R P most left left_more → AreNext R P most right right_more
        → (left ≡ right) × (left_more ≡ right_more)
    same_next most left right left_more right_more p q =
        let same = same_fronts total left right p.first.rising q.first.rising (in_or_after most left right left_more right_more p q)
        (in_or_after most right left right_more left_more q p) in (
          same,
          same_tests left_more right_more (left_iff most left left_more p)
              (subst (λ firsts. IsTrue right_more ↔ ((x : X) × P x × ComesAfter R firsts x)) (sym same) (left_iff most right right_more q)),
        )

    pub same_all : (left right : List X) → AreAll R P left → AreAll R P right → left ≡ right
    same_all left right p q =
        same_sorted total left right p.rising q.rising (λ x of. q.complete x (p.only x of)) (λ x of. p.complete x (q.only x of))

    is_more : (xs : List X) → (more : Bool) × (IsTrue more ↔ (xs ≢ []))
    is_more [] = (false, ((λ told_so. absurd (cc (told_so))), λ some. absurd (some refl)))
    is_more (x ∷ xs) = (true, ((λ told_so none. absurd (cc (none))), λ some. refl))

    -- the first ones of all that have the property
    next_of_all : (most : ℕ) (all : List X) (more : Bool) → AreAll R P all → (IsTrue more ↔ (drop most all ≢ [])) → AreNext R P most (take most all) more
    next_of_all most all more are tells =
        let parts = sym (take-append-drop most all) in
        let rising = subst (IsStrictlySortedBy R) parts are.rising in
        record {
          first = record {
            rising = sorted_front total (take most all) (drop most all) rising;
            only = λ x of. are.only x (Contains-from_take most all x of);
            complete = λ x of. elim (Contains-parts most all x (are.complete x of)) [
              | inl here ↦ inl here
              | inr later ↦ inr (tells.1 (some_by_element (drop most all) x later), following_front total (take most all) (drop most all) x rising later)
            ];
            left = λ told_so.
                let (x, of) : (x : X) × Contains (drop most all) x = some_element (drop most all) (tells.0 told_so) in
                (x, are.only x (Contains-from_drop most all x of), following_front total (take most all) (drop most all) x rising of);
          };
          at_most = omega (arith, length-take most all);
          full = λ told_so.
              let some = some_element (drop most all) (tells.0 told_so) in
              let low = some.1.1 in
              let taken = length-take most all in
              let dropped = length-drop most all in
              omega (arith, low, taken, dropped);
        }

    pub front_of_all : (most : ℕ) (all next : List X) (more : Bool) → AreAll R P all → AreNext R P most next more
        → (next ≡ take most all) × (IsTrue more ↔ (drop most all ≢ []))
    front_of_all most all next more are is =
        let (left, tells) : (left : Bool) × (IsTrue left ↔ (drop most all ≢ [])) = is_more (drop most all) in
        let same = same_next most next (take most all) more left is (next_of_all most all left are tells) in
        (same.0, subst (λ test. IsTrue test ↔ (drop most all ≢ [])) (sym same.1) tells)

  -- ---- first ones of one property, and then some of another, each of which comes after all of the first; these are enough to fill up

  module _ (P Q : X → Type 0) (most : ℕ) (firsts nexts : List X) (first_more next_more : Bool) (are : AreNext R P most firsts first_more)
      (following : AreFirst R Q nexts next_more) (enough : next_more ≡ true → most - length firsts ≤ length nexts)
      (before : (x y : X) → P x → Q y → R x y ≡ Less) (fits : ℕ) (room : fits ≡ min (most - length firsts) (length nexts)) where
    parts_rise : IsStrictlySortedBy R (take fits nexts ++ drop fits nexts)
    parts_rise = subst (IsStrictlySortedBy R) (sym (take-append-drop fits nexts)) following.rising

    all_before : (y : X) → Q y → ComesAfter R firsts y
    all_before y of = All-from_Contains (λ x. R x y ≡ Less) firsts (λ x here. before x y (are.first.only x here) of)

    kept_rise : IsStrictlySortedBy R (firsts ++ take fits nexts)
    kept_rise =
        sorted_append total firsts (take fits nexts) are.first.rising (sorted_front total (take fits nexts) (drop fits nexts) parts_rise)
        (λ y of. all_before y (following.only y (Contains-from_take fits nexts y of)))

    kept_only : (x : X) → Contains (firsts ++ take fits nexts) x → P x ⊎ Q x
    kept_only x of = elim (Contains-append_cases firsts (take fits nexts) x of) [
      | inl here ↦ inl (are.first.only x here)
      | inr later ↦ inr (following.only x (Contains-from_take fits nexts x later))
    ]

    kept_count : length (firsts ++ take fits nexts) ≡ length firsts + fits
    kept_count = let count = length-append firsts (take fits nexts) in let taken = length-take fits nexts in omega (arith, count, taken, room)

    -- what comes after both parts comes after all that is kept
    after_kept : (y : X) → ComesAfter R firsts y → ComesAfter R (take fits nexts) y → ComesAfter R (firsts ++ take fits nexts) y
    after_kept y first next = All-append (λ x. R x y ≡ Less) firsts (take fits nexts) first next

    after_taken : (y : X) → ComesAfter R nexts y → ComesAfter R (take fits nexts) y
    after_taken y after =
        All-from_Contains (λ x. R x y ≡ Less) (take fits nexts)
        (λ x of. All-contains (λ x. R x y ≡ Less) nexts x after (Contains-from_take fits nexts x of))

    none_fit : first_more ≡ true → fits ≡ 0
    none_fit told_so = let full = are.full told_so in omega (arith, full, room)

    after_none : first_more ≡ true → (y : X) → ComesAfter R firsts y → ComesAfter R (firsts ++ take fits nexts) y
    after_none told_so y after =
        after_kept y after (subst (λ n. ComesAfter R (take n nexts) y) (sym (none_fit told_so)) (All-nil (λ x. R x y ≡ Less)))

    some_dropped : (y : X) → Contains (drop fits nexts) y → fits < length nexts
    some_dropped y (k, low, at) = omega (arith, low, length-drop fits nexts)

    -- one is left just where one was left in either, or not all fit
    module _ (more : Bool) (told : (first_more ≡ true) ⊎ ((next_more ≡ true) ⊎ (fits < length nexts)) → more ≡ true)
        (says : more ≡ true → (first_more ≡ true) ⊎ ((next_more ≡ true) ⊎ (fits < length nexts))) where
      kept_complete : (x : X) → P x ⊎ Q x → Contains (firsts ++ take fits nexts) x ⊎ ((more ≡ true) × ComesAfter R (firsts ++ take fits nexts) x)
      kept_complete x (inl of) = elim (are.first.complete x of) [
        | inl here ↦ inl (Contains-append_left firsts (take fits nexts) x here)
        | inr (told_so, after) ↦ inr (told (inl told_so), after_none told_so x after)
      ]
      kept_complete x (inr of) = elim (following.complete x of) [
        | inl here ↦ elim (Contains-parts fits nexts x here) [
          | inl front ↦ inl (Contains-append_right firsts (take fits nexts) x front)
          | inr back ↦ inr (
            told (inr (inr (some_dropped x back))),
            after_kept x (all_before x of) (following_front total (take fits nexts) (drop fits nexts) x parts_rise back),
          )
        ]
        | inr (told_so, after) ↦ inr (told (inr (inl told_so)), after_kept x (all_before x of) (after_taken x after))
      ]

      kept_left : more ≡ true → (x : X) × (P x ⊎ Q x) × ComesAfter R (firsts ++ take fits nexts) x
      kept_left told_so = elim (says told_so) [
        | inl first ↦
            let (x, of, after) : (x : X) × P x × ComesAfter R firsts x = are.first.left first in
            (x, inl of, after_none first x after)
        | inr (inl next) ↦
            let (x, of, after) : (x : X) × Q x × ComesAfter R nexts x = following.left next in
            (x, inr of, after_kept x (all_before x of) (after_taken x after))
        | inr (inr fewer) ↦
            let (x, back) : (x : X) × Contains (drop fits nexts) x = some_element (drop fits nexts)
            (λ none. let count = length-drop fits nexts in let nothing = ap length none in omega (arith, count, nothing, fewer)) in
            let of = following.only x (Contains-from_drop fits nexts x back) in
            (x, inr of, after_kept x (all_before x of) (following_front total (take fits nexts) (drop fits nexts) x parts_rise back))
      ]

      kept_full : more ≡ true → length (firsts ++ take fits nexts) ≡ most
      kept_full told_so =
          let few = are.at_most in
          elim (says told_so) [
            | inl first ↦ let full = are.full first in omega (arith, kept_count, room, full)
            | inr (inl next) ↦ let many = enough next in omega (arith, kept_count, room, many, few)
            | inr (inr fewer) ↦ omega (arith, kept_count, room, fewer, few)
          ]

      pub next_of_both : AreNext R (λ x. P x ⊎ Q x) most (firsts ++ take fits nexts) more
      next_of_both = record {
        first = record { rising = kept_rise; only = kept_only; complete = kept_complete; left = kept_left };
        at_most = let few = are.at_most in omega (arith, kept_count, room, few);
        full = kept_full;
      }

-- the first ones of a property are those of another that the same things have
pub next_with : {X : Type 0} (R : X → X → Ordering) (P Q : X → Type 0) (most : ℕ) (firsts : List X) (more : Bool) → ((x : X) → P x → Q x)
    → ((x : X) → Q x → P x) → AreNext R P most firsts more → AreNext R Q most firsts more
next_with R P Q most firsts more to from are = record {
  first = record {
    rising = are.first.rising;
    only = λ x of. to x (are.first.only x of);
    complete = λ x of. are.first.complete x (from x of);
    left = λ told_so. let found = are.first.left told_so in (found.0, to found.0 found.1, found.2);
  };
  at_most = are.at_most;
  full = are.full;
}
