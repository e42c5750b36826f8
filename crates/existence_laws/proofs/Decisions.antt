-- What is decided holds, or does not: each decision is put together of those of its parts, by their cases.
use Rattle.std.proofs.Common.{◌≡◌, ℕ, ◌<◌, ◌≤◌, ◌⊎◌, ◌↔◌, inl, inr, Bool, true, List, [], ◌∷◌, refl, sym, subst, arith}
use Rattle.std.specs.List.{All, AllByRecursion, Contains}
use Rattle.std.proofs.lemmas.Bool.{cases_lt, cases_eq, cases_Bool}
use Rattle.std.proofs.lemmas.List.Elements.{All-nil, All-cons, All-head, All-tail}
use Rattle.list_laws.proofs.Sorted.{Contains-first, Contains-later, Contains-cons_cases, not_Contains-nil}

-- it holds, or it does not
abbrev pub Decided : Type 0 → Type 0
Decided A = A ⊎ (A → ⊥)

-- ---- of one fact another

-- where each of two facts gives the other
pub told_by : {A B : Type 0} → (A → B) → (B → A) → Decided A → Decided B
told_by to back (inl a) = inl (to a)
told_by to back (inr n) = inr (λ b. n (back b))

pub by_law : {A B : Type 0} → (B ↔ A) → Decided A → Decided B
by_law law (inl a) = inl (law.1 a)
by_law law (inr n) = inr (λ b. n (law.0 b))

pub refuted : {A : Type 0} → Decided A → Decided (A → ⊥)
refuted (inl a) = inr (λ n. n a)
refuted (inr n) = inl n

-- it holds where it is not refuted
pub if_not_refuted : {A : Type 0} → Decided A → ((A → ⊥) → ⊥) → A
if_not_refuted (inl a) h = a
if_not_refuted (inr n) h = absurd (h n)

-- ---- of several facts

pub both : {A B : Type 0} → Decided A → Decided B → Decided (A × B)
both (inl a) (inl b) = inl (a, b)
both (inl a) (inr n) = inr (λ h. n h.1)
both (inr n) d = inr (λ h. n h.0)

pub all_three : {A B C : Type 0} → Decided A → Decided B → Decided C → Decided (A × B × C)
all_three (inl a) (inl b) (inl c) = inl (a, b, c)
all_three (inl a) (inl b) (inr n) = inr (λ h. n h.2)
all_three (inl a) (inr n) d = inr (λ h. n h.1)
all_three (inr n) d e = inr (λ h. n h.0)

pub either : {A B : Type 0} → Decided A → Decided B → Decided (A ⊎ B)
either (inl a) d = inl (inl a)
either (inr n) (inl b) = inl (inr b)
either (inr n) (inr m) = inr (λ h. elim h [ inl a ↦ n a | inr b ↦ m b ])

-- the one follows from the other
pub follows : {A B : Type 0} → Decided A → Decided B → Decided (A → B)
follows (inl a) (inl b) = inl (λ x. b)
follows (inl a) (inr n) = inr (λ f. n (f a))
follows (inr n) d = inl (λ x. absurd (n x))

-- ---- numbers and tests

pub is_below : (m n : ℕ) → Decided (m < n)
is_below m n = elim (cases_lt m n) [ inl l ↦ inl l | inr g ↦ inr (λ l. omega arith) ]

pub is_at_most : (m n : ℕ) → Decided (m ≤ n)
is_at_most m n = elim (cases_lt n m) [ inl l ↦ inr (λ g. omega arith) | inr g ↦ inl g ]

pub is_true : (test : Bool) → Decided (test ≡ true)
is_true test = elim (cases_Bool test) [ inl e ↦ inl e | inr e ↦ inr (λ f. cc) ]

-- ---- lists

cons_is : {X : Type 0} (x y : X) (xs ys : List X) → x ≡ y → xs ≡ ys → x ∷ xs ≡ y ∷ ys
cons_is x y xs ys e f = cc

cons_parts : {X : Type 0} (x y : X) (xs ys : List X) → x ∷ xs ≡ y ∷ ys → (x ≡ y) × (xs ≡ ys)
cons_parts x y xs ys e = (cc, cc)

pub is_same_list : {X : Type 0} → ((x y : X) → Decided (x ≡ y)) → (xs ys : List X) → Decided (xs ≡ ys)
is_same_list same [] [] = inl refl
is_same_list same [] (y ∷ ys) = inr (λ e. cc)
is_same_list same (x ∷ xs) [] = inr (λ e. cc)
is_same_list same (x ∷ xs) (y ∷ ys) =
    told_by (λ h. cons_is x y xs ys h.0 h.1) (cons_parts x y xs ys) (both (same x y) (is_same_list same xs ys))

pub is_same_word : (left right : List ℕ) → Decided (left ≡ right)
is_same_word left right = is_same_list cases_eq left right

pub is_element : {X : Type 0} → ((x y : X) → Decided (x ≡ y)) → (xs : List X) (x : X) → Decided (Contains xs x)
is_element same [] x = inr (not_Contains-nil x)
is_element same (y ∷ ys) x =
    told_by
    (λ h. elim h [ inl e ↦ subst (Contains (y ∷ ys)) e (Contains-first y ys) | inr m ↦ Contains-later y ys x m ])
    (Contains-cons_cases y ys x) (either (same y x) (is_element same ys x))

module _ {X : Type 0} (P : X → Type 0) (each : (x : X) → Decided (P x)) where
  pub holds_of_all : (xs : List X) → Decided (All P xs)
  holds_of_all [] = inl (All-nil P)
  holds_of_all (x ∷ xs) =
      told_by (λ h. All-cons P x xs h.0 h.1) (λ h. (All-head P x xs h, All-tail P x xs h)) (both (each x) (holds_of_all xs))

  pub holds_of_each : (xs : List X) → Decided (AllByRecursion P xs)
  holds_of_each [] = inl tt
  holds_of_each (x ∷ xs) = both (each x) (holds_of_each xs)

  pub holds_of_some : (xs : List X) → Decided ((x : X) × Contains xs x × P x)
  holds_of_some [] = inr (λ h. not_Contains-nil h.0 h.1)
  holds_of_some (x ∷ xs) =
      told_by
      (λ h. elim h [ inl p ↦ (x, Contains-first x xs, p) | inr s ↦ (s.0, Contains-later x xs s.0 s.1, s.2) ])
      (λ s. elim (Contains-cons_cases x xs s.0 s.1) [ inl e ↦ inl (subst P (sym e) s.2) | inr m ↦ inr (s.0, m, s.2) ])
      (either (each x) (holds_of_some xs))

  -- where only elements of a list can have the property, one has it or none
  pub one_has : (xs : List X) → ((x : X) → P x → Contains xs x) → Decided ((x : X) × P x)
  one_has xs within = told_by (λ s. (s.0, s.2)) (λ h. (h.0, within h.0 h.1, h.1)) (holds_of_some xs)
