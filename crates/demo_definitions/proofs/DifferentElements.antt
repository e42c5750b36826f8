-- Different elements of a list are no more than it has: by induction on them, where each is taken out of the list.
use Rattle.std.proofs.Common.{◌≡◌, ◌≢◌, suc, ◌≤◌, ◌⊎◌, inl, inr, List, [], ◌∷◌, ◌++◌, length, refl, sym, ◌∙◌, subst, arith}
use Rattle.std.specs.Prelude.{Contains}
use Rattle.std.specs.List.{AllPairs}
use Rattle.list_laws.proofs.Sorted.{Contains-later, Contains-cons_cases, not_Contains-nil}

-- the element is one of the list's
abbrev pub In : {X : Type 0} → X → List X → Type 0
In x [] = ⊥
In x (y ∷ ys) = (y ≡ x) ⊎ In x ys

-- no element comes again
abbrev pub AreDifferent : {X : Type 0} → List X → Type 0
AreDifferent [] = Unit {0}
AreDifferent (x ∷ xs) = (In x xs → ⊥) × AreDifferent xs

pub in_from_contains : {X : Type 0} (x : X) (xs : List X) → Contains xs x → In x xs
in_from_contains x [] h = absurd (not_Contains-nil x h)
in_from_contains x (y ∷ ys) h = elim (Contains-cons_cases y ys x h) [
  | inl e ↦ inl e
  | inr m ↦ inr (in_from_contains x ys m)
]

pub contains_from_in : {X : Type 0} (x : X) (xs : List X) → In x xs → Contains xs x
contains_from_in x [] h = absurd h
contains_from_in x (y ∷ ys) (inl e) = (0, omega arith, e)
contains_from_in x (y ∷ ys) (inr m) = Contains-later y ys x (contains_from_in x ys m)

-- the list without the element that is found in it
taken_out : {X : Type 0} (x : X) (ys : List X) → In x ys → List X
taken_out x [] h = []
taken_out x (y ∷ ys) (inl e) = ys
taken_out x (y ∷ ys) (inr m) = y ∷ taken_out x ys m

one_fewer : {X : Type 0} (x : X) (ys : List X) (h : In x ys) → suc (length (taken_out x ys h)) ≡ length ys
unfolding taken_out
one_fewer x [] h = absurd h
one_fewer x (y ∷ ys) (inl e) = omega arith
one_fewer x (y ∷ ys) (inr m) = let fewer = one_fewer x ys m in omega arith

-- any other element is still there
others_stay : {X : Type 0} (x z : X) (ys : List X) (h : In x ys) → z ≢ x → In z ys → In z (taken_out x ys h)
unfolding taken_out
others_stay x z [] h other k = k
others_stay x z (y ∷ ys) (inl e) other (inl f) = absurd (other (sym f ∙ e))
others_stay x z (y ∷ ys) (inl e) other (inr n) = n
others_stay x z (y ∷ ys) (inr m) other (inl f) = inl f
others_stay x z (y ∷ ys) (inr m) other (inr n) = inr (others_stay x z ys m other n)

pub different_are_few : {X : Type 0} (xs ys : List X) → AreDifferent xs → ((x : X) → In x xs → In x ys) → length xs ≤ length ys
different_are_few [] ys different among = omega arith
different_are_few (x ∷ xs) ys different among =
    let here = among x (inl refl) in
    let fewer = one_fewer x ys here in
    let rest = different_are_few xs (taken_out x ys here) different.1 (λ z m.
    others_stay x z ys here (λ e. different.0 (subst (λ w. In w xs) e m)) (among z (inr m))) in
    omega arith

-- elements that differ in pairs come once
pub different_from_pairs : {X : Type 0} (xs : List X) → AllPairs (λ left right. left ≢ right) xs → AreDifferent xs
different_from_pairs [] h = tt
different_from_pairs (x ∷ xs) h = (
  (λ m. let at = contains_from_in x xs m in h 0 (suc at.0) x (omega arith) (omega (arith, at.1)) (sym at.2)),
  different_from_pairs xs (λ i j d below within. h (suc i) (suc j) d (omega arith) (omega arith)),
)

-- different elements, and others that are not among them
pub different_appended : {X : Type 0} (xs ys : List X) → AreDifferent xs → AreDifferent ys → ((x : X) → In x xs → In x ys → ⊥) → AreDifferent (xs ++ ys)
different_appended [] ys dx dy apart = dy
different_appended (x ∷ xs) ys dx dy apart = (
  (λ m. elim (in_parts x xs ys m) [
    | inl l ↦ dx.0 l
    | inr r ↦ apart x (inl refl) r
  ]),
  different_appended xs ys dx.1 dy (λ z l. apart z (inr l)),
)
  where
    in_parts : {Y : Type 0} (z : Y) (zs ws : List Y) → In z (zs ++ ws) → In z zs ⊎ In z ws
    in_parts z [] ws m = inr m
    in_parts z (w ∷ zs) ws (inl e) = inl (inl e)
    in_parts z (w ∷ zs) ws (inr m) = elim (in_parts z zs ws m) [ inl l ↦ inl (inr l) | inr r ↦ inr r ]
