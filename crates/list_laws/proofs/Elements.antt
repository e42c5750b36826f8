-- Lists that are not empty, lists of results of a function, what holds of each two elements, and lists cut in parts: by
-- recursion on the list.
use Rattle.std.proofs.Common.{◌≡◌, ◌≢◌, ℕ, zero, suc, ◌+◌, ◌<◌, ◌≤◌, false, List, [], ◌∷◌, ◌++◌, length, map, take, drop, get_or, nat_eq, AllPairs, Contains, refl, sym, ◌∙◌, ap, subst, arith}
use Rattle.std.specs.List.{AllByRecursion}
use Rattle.std.proofs.lemmas.Bool.{eqb-false}
use Rattle.std.proofs.lemmas.List.{append_assoc, take-append-drop, drop-drop, length-take, length-drop}
use Rattle.std.proofs.lemmas.List.Elements.{All-from_recursion, All-get_or}
use Rattle.list_laws.proofs.Sorted.{Contains-first, not_Contains-nil}

-- ---- lists that are not empty

-- a list that is not empty has an element
pub some_element : {X : Type 0} (xs : List X) → xs ≢ [] → (x : X) × Contains xs x
some_element [] some = absurd (some refl)
some_element (x ∷ xs) some = (x, Contains-first x xs)

-- a list that has an element is not empty
pub some_by_element : {X : Type 0} (xs : List X) (x : X) → Contains xs x → xs ≢ []
some_by_element xs x among e = not_Contains-nil x (subst (λ ys. Contains ys x) e among)

-- nor is one that has a length
pub some_by_length : {X : Type 0} (xs : List X) → 0 < length xs → xs ≢ []
some_by_length [] h e = absurd (omega arith)
some_by_length (x ∷ xs) h e = cc

-- nor is one that begins or ends with an element
pub some_by_first : {X : Type 0} (x : X) (xs : List X) → x ∷ xs ≢ []
some_by_first x xs e = cc

pub some_by_last : {X : Type 0} (xs : List X) (x : X) → xs ++ x ∷ [] ≢ []
some_by_last [] x e = cc
some_by_last (first ∷ xs) x e = cc

-- lists of numbers whose first numbers differ are not the same
pub first_differs : (left right : List ℕ) → nat_eq (get_or left 0 0) (get_or right 0 0) ≡ false → left ≢ right
first_differs left right h e = eqb-false (get_or left 0 0) (get_or right 0 0) h (ap (λ (w : List ℕ). get_or w 0 0) e)

-- ---- each element, and each two

-- what holds of each result of a function holds of what it makes of each element
pub all_of_map : {X Y : Type 0} (P : Y → Type 0) (f : X → Y) (xs : List X) → AllByRecursion P (map f xs) → AllByRecursion (λ x. P (f x)) xs
all_of_map P f [] h = tt
all_of_map P f (x ∷ xs) h = (h.0, all_of_map P f xs h.1)

-- R holds of each element and each later one
abbrev pub Pairwise : {X : Type 0} → (X → X → Type 0) → List X → Type 0
Pairwise R [] = Unit {0}
Pairwise R (x ∷ xs) = AllByRecursion (R x) xs × Pairwise R xs

pub pairs_from_recursion : {X : Type 0} (R : X → X → Type 0) (xs : List X) → Pairwise R xs → AllPairs R xs
pairs_from_recursion R [] h i j d l m = absurd (omega arith)
pairs_from_recursion R (x ∷ xs) h i zero d l m = absurd (omega arith)
pairs_from_recursion R (x ∷ xs) h zero (suc j) d l m =
    All-get_or (R x) xs j d (omega arith) (All-from_recursion (R x) xs h.0)
pairs_from_recursion R (x ∷ xs) h (suc i) (suc j) d l m =
    pairs_from_recursion R xs h.1 i j d (omega arith) (omega arith)

-- ---- parts of a list

-- the elements from a place on are those taken, the w after them, and the rest
pub parts_from : (letters w : List ℕ) (at taken : ℕ) → take (length w) (drop (at + taken) letters) ≡ w
    → drop at letters ≡ take taken (drop at letters) ++ w ++ drop (at + taken + length w) letters
parts_from letters w at taken here =
    let following : drop (at + taken) letters ≡ w ++ drop (at + taken + length w) letters =
    sym (take-append-drop (length w) (drop (at + taken) letters)) ∙ ap (λ v. v ++ drop (length w) (drop (at + taken) letters)) here
    ∙ ap (λ rest. w ++ rest) (drop-drop (length w) (at + taken) letters) in
    let all : drop at letters ≡ take taken (drop at letters) ++ drop (at + taken) letters =
    sym (take-append-drop taken (drop at letters)) ∙ ap (λ rest. take taken (drop at letters) ++ rest) (drop-drop taken at letters) in
    all ∙ ap (λ rest. take taken (drop at letters) ++ rest) following ∙ sym (append_assoc (take taken (drop at letters)) w (drop (at + taken + length w) letters))

-- the letters that stand somewhere in a list are not more than those from there on
pub written_within : (letters w : List ℕ) (at : ℕ) → at ≤ length letters → take (length w) (drop at letters) ≡ w → at + length w ≤ length letters
written_within letters w at within written =
    omega (arith, length-drop at letters, length-take (length w) (drop at letters), ap length written)

-- what is put in front of two lists put together is in front of the first
pub append_regrouped : (front a b : List ℕ) → front ++ (a ++ b) ≡ (front ++ a) ++ b
append_regrouped front a b = sym (append_assoc front a b)

-- six lists put together, one after another
pub six_regrouped : {X : Type 0} (a b c d e f : List X) → ((((a ++ b) ++ c) ++ d) ++ e) ++ f ≡ a ++ (b ++ (c ++ (d ++ (e ++ f))))
six_regrouped a b c d e f = simp append_assoc
