-- The first ones of two properties that stand one after the other are the first ones of both: each fact is split by which
-- of the two properties holds.
use Rattle.std.proofs.Common.{◌≡◌, ◌⊎◌, inl, inr, Bool, true, false, List, [], ◌∷◌, ◌++◌, map, refl, sym, ap, subst, ◌∙◌}
use Rattle.std.specs.List.{All, Contains}
use Rattle.std.specs.List.Sorted.{IsStrictlySortedBy}
use Rattle.std.specs.declared.cmp.Ordering.{Ordering}
use Rattle.std.specs.declared.cmp.Ordering.TheVariants.{Less}
use Rattle.std.proofs.lemmas.List.{append-nil, append_assoc}
use Rattle.std.proofs.lemmas.List.Elements.{All-append, All-from_recursion, recursion_from_All, All-contains, Contains-append_left, Contains-append_right, Contains-append_cases}
use Rattle.std.proofs.lemmas.Map.Keys.{sorted_head, sorted_tail}
use Rattle.list_laws.proofs.Sorted.{Contains-first, Contains-later, Contains-cons_cases, not_Contains-nil, All-from_Contains}
use Rattle.list_laws.specs.Firsts.{ComesAfter, AreFirst, AreAll, AppendsAll}

module _ {X : Type 0} (R : X → X → Ordering) where
  pub sorted-cons : (x : X) (xs : List X) → All (λ y. R x y ≡ Less) xs → IsStrictlySortedBy R xs → IsStrictlySortedBy R (x ∷ xs)
  unfolding IsStrictlySortedBy
  sorted-cons x xs head tail = (recursion_from_All (λ y. R x y ≡ Less) xs head, tail)

  pub sorted-append : (xs ys : List X) → IsStrictlySortedBy R xs → IsStrictlySortedBy R ys
      → ((x y : X) → Contains xs x → Contains ys y → R x y ≡ Less) → IsStrictlySortedBy R (xs ++ ys)
  sorted-append [] ys s t h = t
  sorted-append (x ∷ xs) ys s t h =
      let P : X → Type 0 = λ y. R x y ≡ Less in
      sorted-cons x (xs ++ ys)
      (All-append P xs ys (All-from_recursion P xs (sorted_head R x xs s)) (All-from_Contains P ys (λ y m. h x y (Contains-first x xs) m)))
      (sorted-append xs ys (sorted_tail R x xs s) t (λ a y m n. h a y (Contains-later x xs a m) n))

  -- nothing has the property
  pub none_at_all : (P : X → Type 0) → ((x : X) → P x → ⊥) → AreAll R P []
  unfolding IsStrictlySortedBy
  none_at_all P none = record {
    rising = tt;
    only = λ x m. absurd (not_Contains-nil x m);
    complete = λ x p. absurd (none x p);
  }

  -- one has the property
  pub one_in_all : (P : X → Type 0) (one : X) → P one → ((x : X) → P x → x ≡ one) → AreAll R P (one ∷ [])
  unfolding IsStrictlySortedBy
  one_in_all P one here same = record {
    rising = (tt, tt);
    only = λ x m. elim (Contains-cons_cases one [] x m) [ inl e ↦ subst P e here | inr n ↦ absurd (not_Contains-nil x n) ];
    complete = λ x p. subst (λ y. Contains (one ∷ []) y) (sym (same x p)) (Contains-first one []);
  }

  -- the same elements have another property
  pub all_with : (P Q : X → Type 0) (xs : List X) → ((x : X) → P x → Q x) → ((x : X) → Q x → P x) → AreAll R P xs → AreAll R Q xs
  all_with P Q xs to from all = record {
    rising = all.rising;
    only = λ x m. to x (all.only x m);
    complete = λ x q. all.complete x (from x q);
  }

  -- all of both, where those of the one come before those of the other
  pub all_of_both : (P Q : X → Type 0) (xs ys : List X) → AreAll R P xs → AreAll R Q ys → ((x y : X) → P x → Q y → R x y ≡ Less)
      → AreAll R (λ x. P x ⊎ Q x) (xs ++ ys)
  all_of_both P Q xs ys left right before = record {
    rising = sorted-append xs ys left.rising right.rising (λ x y m n. before x y (left.only x m) (right.only y n));
    only = λ x m. elim (Contains-append_cases xs ys x m) [ inl a ↦ inl (left.only x a) | inr b ↦ inr (right.only x b) ];
    complete = λ x h. elim h [
      | inl p ↦ Contains-append_left xs ys x (left.complete x p)
      | inr q ↦ Contains-append_right xs ys x (right.complete x q)
    ];
  }

  pub first_with : (P Q : X → Type 0) (xs : List X) (more : Bool) → ((x : X) → P x → Q x) → ((x : X) → Q x → P x)
      → AreFirst R P xs more → AreFirst R Q xs more
  first_with P Q xs more to from first = record {
    rising = first.rising;
    only = λ x m. to x (first.only x m);
    complete = λ x q. first.complete x (from x q);
    left = λ is. let l = first.left is in (l.0, to l.0 l.1, l.2);
  }

  -- where no element is left, the first are all
  pub all_from_first : (P : X → Type 0) (xs : List X) → AreFirst R P xs false → AreAll R P xs
  all_from_first P xs first = record {
    rising = first.rising;
    only = first.only;
    complete = λ x p. elim (first.complete x p) [ inl m ↦ m | inr (e, h) ↦ absurd (cc) ];
  }

  pub first_from_all : (P : X → Type 0) (xs : List X) → AreAll R P xs → AreFirst R P xs false
  first_from_all P xs all = record {
    rising = all.rising;
    only = all.only;
    complete = λ x p. inl (all.complete x p);
    left = λ e. absurd (cc);
  }

  -- all of one and the first of another after them are the first of both
  pub first_of_both : (P Q : X → Type 0) (xs ys : List X) (more : Bool) → AreAll R P xs → AreFirst R Q ys more
      → ((x y : X) → P x → Q y → R x y ≡ Less) → AreFirst R (λ x. P x ⊎ Q x) (xs ++ ys) more
  first_of_both P Q xs ys more left right before =
      let following : (y : X) → Q y → ComesAfter R ys y → ComesAfter R (xs ++ ys) y =
      λ y q h. All-append (λ x. R x y ≡ Less) xs ys (All-from_Contains (λ x. R x y ≡ Less) xs (λ x m. before x y (left.only x m) q)) h in
      record {
        rising = sorted-append xs ys left.rising right.rising (λ x y m n. before x y (left.only x m) (right.only y n));
        only = λ x m. elim (Contains-append_cases xs ys x m) [ inl a ↦ inl (left.only x a) | inr b ↦ inr (right.only x b) ];
        complete = λ x h. elim h [
          | inl p ↦ inl (Contains-append_left xs ys x (left.complete x p))
          | inr q ↦ elim (right.complete x q) [
            | inl m ↦ inl (Contains-append_right xs ys x m)
            | inr (e, b) ↦ inr (e, following x q b)
          ]
        ];
        left = λ e. let l = right.left e in (l.0, inr l.1, following l.0 l.1 l.2);
      }

  -- where some are left already, they stay the first
  pub first_before : (P Q : X → Type 0) (xs : List X) → AreFirst R P xs true → ((x y : X) → P x → Q y → R x y ≡ Less)
      → AreFirst R (λ x. P x ⊎ Q x) xs true
  first_before P Q xs first before = record {
    rising = first.rising;
    only = λ x m. inl (first.only x m);
    complete = λ x h. elim h [
      | inl p ↦ first.complete x p
      | inr q ↦ inr (refl, All-from_Contains (λ y. R y x ≡ Less) xs (λ y m. before y x (first.only y m) q))
    ];
    left = λ e. let l = first.left e in (l.0, inl l.1, l.2);
  }

  -- nothing is appended where nothing has the property
  pub appends_none : (P : X → Type 0) (xs : List X) → ((x : X) → P x → ⊥) → AppendsAll R P xs xs
  appends_none P xs none = record { added = []; is = sym (append-nil xs); all = none_at_all P none }

  pub appends_one : (P : X → Type 0) (xs : List X) (one : X) → P one → ((x : X) → P x → x ≡ one) → AppendsAll R P xs (xs ++ one ∷ [])
  appends_one P xs one here same = record { added = one ∷ []; is = refl; all = one_in_all P one here same }

  pub appends_with : (P Q : X → Type 0) (before after : List X) → ((x : X) → P x → Q x) → ((x : X) → Q x → P x)
      → AppendsAll R P before after → AppendsAll R Q before after
  appends_with P Q before after to from appends =
      record { added = appends.added; is = appends.is; all = all_with P Q appends.added to from appends.all }

  -- one after another
  pub appends_both : (P Q : X → Type 0) (before between after : List X) → AppendsAll R P before between → AppendsAll R Q between after
      → ((x y : X) → P x → Q y → R x y ≡ Less) → AppendsAll R (λ x. P x ⊎ Q x) before after
  appends_both P Q before between after left right less = record {
    added = left.added ++ right.added;
    is = right.is ∙ ap (λ xs. xs ++ right.added) left.is ∙ append_assoc before left.added right.added;
    all = all_of_both P Q left.added right.added left.all right.all less;
  }

-- an element's image is an image, and each image is some element's
pub Contains-map : {X Y : Type 0} (f : X → Y) (xs : List X) (x : X) → Contains xs x → Contains (map f xs) (f x)
Contains-map f [] x m = absurd (not_Contains-nil x m)
Contains-map f (z ∷ xs) x m = elim (Contains-cons_cases z xs x m) [
  | inl e ↦ subst (λ y. Contains (f z ∷ map f xs) y) (ap f e) (Contains-first (f z) (map f xs))
  | inr n ↦ Contains-later (f z) (map f xs) (f x) (Contains-map f xs x n)
]

pub Contains-map_cases : {X Y : Type 0} (f : X → Y) (xs : List X) (y : Y) → Contains (map f xs) y → (x : X) × Contains xs x × (f x ≡ y)
Contains-map_cases f [] y m = absurd (not_Contains-nil y m)
Contains-map_cases f (z ∷ xs) y m = elim (Contains-cons_cases (f z) (map f xs) y m) [
  | inl e ↦ (z, Contains-first z xs, e)
  | inr n ↦ let h = Contains-map_cases f xs y n in (h.0, Contains-later z xs h.0 h.1, h.2)
]

-- the first of two orders, where the images of two rise as they do
module _ {X Y : Type 0} (R : X → X → Ordering) (S : Y → Y → Ordering) (f : X → Y) (P : X → Type 0)
    (rise : (x z : X) → P x → P z → R x z ≡ Less → S (f x) (f z) ≡ Less) where
  following-map : (xs : List X) (x : X) → ((z : X) → Contains xs z → P z) → P x → ComesAfter R xs x → ComesAfter S (map f xs) (f x)
  following-map xs x only p b =
      All-from_Contains (λ y. S y (f x) ≡ Less) (map f xs) (λ y m.
      let h = Contains-map_cases f xs y m in
      subst (λ y. S y (f x) ≡ Less) h.2 (rise h.0 x (only h.0 h.1) p (All-contains (λ z. R z x ≡ Less) xs h.0 b h.1)))

  pub sorted-map : (xs : List X) → ((z : X) → Contains xs z → P z) → IsStrictlySortedBy R xs → IsStrictlySortedBy S (map f xs)
  unfolding IsStrictlySortedBy
  sorted-map [] only s = tt
  sorted-map (x ∷ xs) only s =
      sorted-cons S (f x) (map f xs)
      (All-from_Contains (λ y. S (f x) y ≡ Less) (map f xs) (λ y m.
      let h = Contains-map_cases f xs y m in
      subst (λ y. S (f x) y ≡ Less) h.2
      (rise x h.0 (only x (Contains-first x xs)) (only h.0 (Contains-later x xs h.0 h.1))
      (All-contains (λ z. R x z ≡ Less) xs h.0 (All-from_recursion (λ z. R x z ≡ Less) xs (sorted_head R x xs s)) h.1))))
      (sorted-map xs (λ z m. only z (Contains-later x xs z m)) (sorted_tail R x xs s))

  -- the images of the first ones are the first of all images
  pub first_images : (Q : Y → Type 0) (xs : List X) (more : Bool) → ((x : X) → P x → Q (f x)) → ((y : Y) → Q y → (x : X) × P x × (f x ≡ y))
      → AreFirst R P xs more → AreFirst S Q (map f xs) more
  first_images Q xs more to from first = record {
    rising = sorted-map xs first.only first.rising;
    only = λ y m. let h = Contains-map_cases f xs y m in subst Q h.2 (to h.0 (first.only h.0 h.1));
    complete = λ y q.
        let h = from y q in
        elim (first.complete h.0 h.1) [
          | inl m ↦ inl (subst (Contains (map f xs)) h.2 (Contains-map f xs h.0 m))
          | inr (e, b) ↦ inr (e, subst (ComesAfter S (map f xs)) h.2 (following-map xs h.0 first.only h.1 b))
        ];
    left = λ e. let l = first.left e in (f l.0, to l.0 l.1, following-map xs l.0 first.only l.1 l.2);
  }
